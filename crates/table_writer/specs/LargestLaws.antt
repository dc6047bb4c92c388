-- "N 128 passes, and so do M 0 and M 512": there are accepted tables of these sizes.
--   grid_taken      == the writer takes N 128 with the first m pairs of the grid, for every m of 0 to 512
--   sizes_accepted  == so for every such m there is an accepted table with N 128 and M m
-- Assumes nothing.
use Rattle.std.specs.Prelude.{ℕ, zero, suc, ◌+◌, ◌-◌, ◌*◌, ◌/◌, ◌%◌, ◌≤◌, ◌<◌, List, [], ◌∷◌, ◌++◌, ◌≡◌, refl, length, get_or, replicate}
use Rattle.std.proofs.Common.{sym, ap, ◌∙◌, arith, length-append, get_or-append-add}
use Rattle.std.proofs.lemmas.List.{length-replicate}
use Rattle.std.proofs.Math.ListN.{get_or-append}
use Rattle.base.specs.Checks.{Same, same, apart}
use Rattle.base.specs.ChoiceLaws.{same?}
use Rattle.tables.specs.declared.Chain.{Chain}
use Rattle.tables.specs.declared.Chain.TheVariants.{Out, In}
use Rattle.tables.specs.Table.{most_processes, most_arcs, table_length, IsProcess}
use Rattle.table_writer.specs.Writing.{pairs, end, write_number}
use Rattle.table_writer.specs.Refusals.{no_row}
use Rattle.table_writer.specs.RefusalLaws.{writer_P}
use Rattle.table_writer.specs.WritingLaws.{written_right}
use Rattle.table_writer.specs.Largest.{grid, TableOf}

grid_length : (m : ℕ) → length (grid m) ≡ 2 * m
unfolding grid
grid_length zero = refl
grid_length (suc m) = length-append (grid m) ((m / 4 + 1) ∷ (m % 4 + 1) ∷ []) ∙ omega (arith, grid_length m)

grid_pairs : (m : ℕ) → pairs (grid m) ≡ m
grid_pairs m = let l : length (grid m) ≡ 2 * m = grid_length m in omega arith

-- entry i of pair k + 1
grid_entry : (m k i : ℕ) → k < m → i < 2 → get_or (grid m) (2 * k + i) 0 ≡ get_or ((k / 4 + 1) ∷ (k % 4 + 1) ∷ []) i 0
unfolding grid
grid_entry zero k i h u = absurd (omega arith)
grid_entry (suc m) k i h u = at (same? k m) (λ l. grid_entry m k i l u)
  where
    here : List ℕ
    here = (m / 4 + 1) ∷ (m % 4 + 1) ∷ []

    at : Same k m → (k < m → get_or (grid m) (2 * k + i) 0 ≡ get_or ((k / 4 + 1) ∷ (k % 4 + 1) ∷ []) i 0)
        → get_or (grid m ++ here) (2 * k + i) 0 ≡ get_or ((k / 4 + 1) ∷ (k % 4 + 1) ∷ []) i 0
    at (same e _) before =
        let place : 2 * k + i ≡ length (grid m) + i = omega (arith, grid_length m) in
        ap (λ (j : ℕ). get_or (grid m ++ here) j 0) place ∙ get_or-append-add (grid m) here i 0 ∙
        ap (λ (j : ℕ). get_or ((j / 4 + 1) ∷ (j % 4 + 1) ∷ []) i 0) (sym e)
    at (apart e _) before = get_or-append (grid m) here 0 (2 * k + i) (omega (arith, grid_length m)) ∙ before (omega arith)

-- the ends of pair k + 1
grid_out : (m k : ℕ) → k < m → end Out (grid m) (k + 1) ≡ k / 4 + 1
unfolding end
grid_out m k h =
    let place : 2 * (k + 1) - 2 ≡ 2 * k + 0 = omega arith in
    ap (λ (j : ℕ). get_or (grid m) j 0) place ∙ grid_entry m k 0 h (omega arith)

grid_in : (m k : ℕ) → k < m → end In (grid m) (k + 1) ≡ k % 4 + 1
unfolding end
grid_in m k h =
    let place : 2 * (k + 1) - 1 ≡ 2 * k + 1 = omega arith in
    ap (λ (j : ℕ). get_or (grid m) j 0) place ∙ grid_entry m k 1 h (omega arith)

module _ (m : ℕ) (few : m ≤ most_arcs) where
  ends_are : (c : Chain) (k : ℕ) → k < m → IsProcess most_processes (end c (grid m) (k + 1))
  ends_are Out k h = rw (grid_out m k h) (omega arith, omega arith)
  ends_are In k h = rw (grid_in m k h) (omega arith, omega arith)

  -- two pairs with the same ends are one
  same_pair : (j k : ℕ) → j < m → k < m → end Out (grid m) (j + 1) ≡ end Out (grid m) (k + 1) → end In (grid m) (j + 1) ≡ end In (grid m) (k + 1) → j ≡ k
  same_pair j k h u e f = omega (arith, grid_out m j h, grid_out m k u, grid_in m j h, grid_in m k u)

  pub grid_taken : (space : ℕ) → table_length most_processes m ≤ space → write_number most_processes (grid m) space ≡ 0
  grid_taken space room =
      let l : length (grid m) ≡ 2 * m = grid_length m in
      let p : pairs (grid m) ≡ m = grid_pairs m in
      (writer_P most_processes (grid m) space 0).1
      (no_row (omega arith) (omega arith, omega arith, omega arith)
      (λ c k low high. whole c k low (omega arith))
      (λ i j low order high e f. other i j low order (omega arith) e f)
      (rw p room))
    where
      whole : (c : Chain) (k : ℕ) → 1 ≤ k → k ≤ m → IsProcess most_processes (end c (grid m) k)
      whole c k low high = let up : k - 1 + 1 ≡ k = omega arith in rw up at (ends_are c (k - 1) (omega arith))

      other : (i j : ℕ) → 1 ≤ i → i < j → j ≤ m → end Out (grid m) i ≡ end Out (grid m) j → end In (grid m) i ≡ end In (grid m) j → ⊥
      other i j low order high e f =
          let up : i - 1 + 1 ≡ i = omega arith in
          let on : j - 1 + 1 ≡ j = omega arith in
          let z : i - 1 ≡ j - 1 = same_pair (i - 1) (j - 1) (omega arith) (omega arith) (rw (up, on) e) (rw (up, on) f) in
          omega arith

pub sizes_accepted : (m : ℕ) → m ≤ most_arcs → TableOf most_processes m
sizes_accepted m few =
    let size : ℕ = table_length most_processes m in
    let out : List ℕ = replicate (table_length most_processes m) 0 in
    let long : length {A = ℕ} (replicate (table_length most_processes m) 0) ≡ table_length most_processes m = length-replicate {A = ℕ} size 0 in
    let right = written_right most_processes (grid m) (replicate (table_length most_processes m) 0) (rw long (grid_taken m few size (omega arith))) in
    record { bytes = _; accepted = right.accepted; n_is = right.n_is; m_is = right.m_is ∙ grid_pairs m }
