-- What callers use of cells: what is read from them is what the table says, and one arc more.
--   cell_by_none              == no arc, nothing
--   cell_of_joins, cell_of_joined, cell_of_place   == by its cell, the chain of a leads to b; a and b are neighbours; where the link from a to b begins
--   with_forth_is, with_back_is   == one arc more, forth and back
--   square_row               == a row of the square
--   cell_linked, cell_apart  == what a cell says of its link; it is 0 where there is none
--   row_linked               == where the link of neighbours stands, by the row of the first
-- Assumes nothing.
use Rattle.std.specs.Prelude.{ℕ, suc, ◌+◌, ◌*◌, ◌/◌, ◌%◌, ◌≤◌, ◌<◌, true, ◌||◌, List, ◌≡◌, get_or, take, drop}
use Rattle.std.proofs.Math.Bool.{false, not}
use Rattle.std.proofs.lemmas.Bool.{false≢true}
use Rattle.std.proofs.Math.Path.{refl, sym}
use Rattle.std.proofs.Common.{◌∙◌, length-take, length-drop, get_or-take, get_or-drop}
use native.Mathlib.Omega.{arith}
use borrow.Author.Tests.{eq-eqb, ne_eqb}
use Rattle.std.proofs.Math.Dec.{eqb}
use Rattle.base.specs.Choice.{bit}
use Rattle.base.specs.ChoiceLaws.{same?, bit_≤1}
use Rattle.base.specs.Checks.{Same, same, apart}
use Rattle.tables.specs.declared.Chain.{Chain}
use Rattle.tables.specs.declared.Chain.TheVariants.{Out, In}
use Rattle.tables.specs.Table.{Fields, most_processes}
use Rattle.tables.specs.Pairs.{square_side}
use Rattle.tables.specs.Waits.{waits_of, neighbours}
use Rattle.tables.specs.Chains.{joins}
use Rattle.areas.specs.Places.{link_size}
use Rattle.areas.specs.Area.{link_place, arc_of, link_of}
use Rattle.areas.specs.Squares.{cell_by, cell_of, place_in, joins_in, with_forth, with_back, Linked, Row, Square}
use Rattle.areas.specs.ArcLaws.{arc_of_waits}

module _ (t : Fields) where
  pub cell_by_none : cell_by t 0 0 ≡ 0
  unfolding cell_by
  cell_by_none = refl

  -- links begin past the heading
  low : (k : ℕ) → 1 ≤ link_place t k
  unfolding link_place
  low k = omega arith

  -- ---- what a cell says of its arcs

  says_forth : (i j : ℕ) → eqb (cell_by t i j % 2) 1 ≡ not (eqb i 0)
  unfolding cell_by
  says_forth i j = at (same? i 0) (same? j 0)
    where
      at : Same i 0 → Same j 0 → eqb (cell_by t i j % 2) 1 ≡ not (eqb i 0)
      at (apart _ q) (same _ p) = rw (q, p) (eq-eqb ((4 * link_place t i + 2 * 0 + 1) % 2) 1 (omega arith))
      at (apart _ q) (apart _ p) = rw (q, p) (eq-eqb ((4 * link_place t i + 2 * 1 + 1) % 2) 1 (omega arith))
      at (same _ q) (same _ p) = rw (q, p)
      at (same _ q) (apart _ p) = rw (q, p) (ne_eqb ((4 * (link_place t j + link_size) + 2) % 2) 1 (λ z. absurd (omega arith)))

  says_back : (i j : ℕ) → eqb (cell_by t i j / 2 % 2) 1 ≡ not (eqb j 0)
  unfolding cell_by
  says_back i j = at (same? i 0) (same? j 0)
    where
      at : Same i 0 → Same j 0 → eqb (cell_by t i j / 2 % 2) 1 ≡ not (eqb j 0)
      at (apart _ q) (same _ p) = rw (q, p) (ne_eqb ((4 * link_place t i + 2 * 0 + 1) / 2 % 2) 1 (λ z. absurd (omega arith)))
      at (apart _ q) (apart _ p) = rw (q, p) (eq-eqb ((4 * link_place t i + 2 * 1 + 1) / 2 % 2) 1 (omega arith))
      at (same _ q) (same _ p) = rw (q, p)
      at (same _ q) (apart _ p) = rw (q, p) (eq-eqb ((4 * (link_place t j + link_size) + 2) / 2 % 2) 1 (omega arith))

  says_some : (i j : ℕ) → not (eqb (cell_by t i j) 0) ≡ (not (eqb i 0) || not (eqb j 0))
  unfolding cell_by
  says_some i j = at (same? i 0) (same? j 0)
    where
      at : Same i 0 → Same j 0 → not (eqb (cell_by t i j) 0) ≡ (not (eqb i 0) || not (eqb j 0))
      at (apart _ q) _ = rw (q, ne_eqb (4 * link_place t i + 2 * bit (not (eqb j 0)) + 1) 0 (λ z. absurd (omega arith)))
      at (same _ q) (same _ p) = rw (q, p)
      at (same _ q) (apart _ p) = rw (q, p, ne_eqb (4 * (link_place t j + link_size) + 2) 0 (λ z. absurd (omega arith)))

  pub cell_of_joins : (c : Chain) (a b : ℕ) → joins_in c (cell_of t a b) ≡ joins c (waits_of t) a b
  unfolding cell_of
  cell_of_joins Out a b = says_forth (arc_of t a b) (arc_of t b a) ∙ sym (arc_of_waits t a b)
  cell_of_joins In a b = says_back (arc_of t a b) (arc_of t b a) ∙ sym (arc_of_waits t b a)

  pub cell_of_joined : (a b : ℕ) → not (eqb (cell_of t a b) 0) ≡ neighbours (waits_of t) a b
  unfolding cell_of neighbours
  cell_of_joined a b = says_some (arc_of t a b) (arc_of t b a) ∙ sym (rw (arc_of_waits t a b, arc_of_waits t b a))

  pub cell_of_place : (a b : ℕ) → neighbours (waits_of t) a b ≡ true → place_in (cell_of t a b) ≡ link_of t a b
  unfolding cell_of cell_by link_of
  cell_of_place a b n = at (same? (arc_of t a b) 0) (same? (arc_of t b a) 0)
    where
      at : Same (arc_of t a b) 0 → Same (arc_of t b a) 0 → place_in (cell_of t a b) ≡ link_of t a b
      at (apart _ q) _ = rw q (omega (arith, bit_≤1 (not (eqb (arc_of t b a) 0))))
      at (same _ q) (apart _ p) = rw (q, p) (omega arith)
      at (same _ q) (same _ p) =
          let z : neighbours (waits_of t) a b ≡ false = sym (cell_of_joined a b) ∙ rw (q, p) in
          absurd (false≢true (sym z ∙ n))

  -- ---- one arc more

  pub with_forth_is : (j k : ℕ) → with_forth (cell_by t 0 j) (link_place t (suc k)) ≡ cell_by t (suc k) j
  unfolding cell_by with_forth
  with_forth_is j k = at (same? j 0)
    where
      at : Same j 0 → with_forth (cell_by t 0 j) (link_place t (suc k)) ≡ cell_by t (suc k) j
      at (same _ p) = rw (p, ne_eqb (suc k) 0 (λ z. absurd (omega arith))) (omega arith)
      at (apart _ p) = rw (p, ne_eqb (suc k) 0 (λ z. absurd (omega arith))) (omega arith)

  pub with_back_is : (i k : ℕ) → with_back (cell_by t i 0) (link_place t (suc k)) ≡ cell_by t i (suc k)
  unfolding cell_by with_back
  with_back_is i k = at (same? i 0)
    where
      at : Same i 0 → with_back (cell_by t i 0) (link_place t (suc k)) ≡ cell_by t i (suc k)
      at (same _ p) = rw (p, ne_eqb (suc k) 0 (λ z. absurd (omega arith)))
      at (apart _ p) =
          rw (p, ne_eqb (suc k) 0 (λ z. absurd (omega arith)), eq-eqb ((4 * link_place t i + 2 * 0 + 1) % 2) 1 (omega arith)) (omega arith)

  -- ---- a row of the square

  pub square_row : {sq : List ℕ} → Square t sq → (b : ℕ) → b ≤ most_processes → Row t b (take square_side (drop (b * square_side) sq))
  square_row {sq} s b u =
      record {
        long = simp (length-take, length-drop) (omega (arith, s.long));
        cells = λ q v. let l : q < square_side = omega arith in rw (get_or-take, get_or-drop) (s.cells b q u v);
      }

  -- ---- the link of a cell

  pub cell_linked : {a b k : ℕ} → k ≡ cell_of t a b → (k ≡ 0 → ⊥) → {i : ℕ} → i ≡ place_in k → Linked t a b i
  cell_linked {a} {b} {k} e h f =
      let j : neighbours (waits_of t) a b ≡ true = sym (cell_of_joined a b) ∙ rw (sym e, ne_eqb k 0 h) in
      record { joined = j; at = f ∙ rw e (cell_of_place a b j) }

  pub cell_apart : (a b : ℕ) {k : ℕ} → k ≡ cell_of t a b → k ≡ 0 → neighbours (waits_of t) a b ≡ false
  cell_apart a b {k} e z = sym (cell_of_joined a b) ∙ rw (sym e, z)

  pub row_linked : {b : ℕ} {row : List ℕ} → Row t b row → {q : ℕ} → q ≤ most_processes → neighbours (waits_of t) b q ≡ true
      → {k : ℕ} → k ≡ get_or row q 0 → {i : ℕ} → i ≡ place_in k → Linked t b q i
  row_linked {b} r {q} u j e f = record { joined = j; at = f ∙ rw (e, r.cells q u) (cell_of_place b q j) }
