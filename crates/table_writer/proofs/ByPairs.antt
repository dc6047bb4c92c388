-- A list by its pairs, as the loops go through them.
--   paired         == what std's chunks of two are
--   unfit_from, unfit_to, fit_both   == check 4 on the pair that a turn reads: its from is no process, its to is none, or both are
--   small_from, small_to   == the pair is within the square
-- Assumes nothing.
use Rattle.std.specs.Prelude.{ℕ, zero, suc, ◌+◌, ◌*◌, ◌≤◌, ◌<◌, true, false, List, [], ◌≡◌, length, get_or, drop}
use Rattle.std.specs.Simd.{first_chunks}
use Rattle.std.proofs.lemmas.List.{get_or-take, get_or-drop}
use Rattle.std.proofs.Common.{ap, ◌∙◌, arith}
use Rattle.tables.specs.declared.Chain.TheVariants.{Out, In}
use Rattle.tables.specs.Table.{most_processes, is_process}
use Rattle.table_writer.specs.Writing.{pairs, end, ends_fit}
use Rattle.table_writer.specs.Putting.{Paired, EntriesUpTo}

chunk_at : (xs : List ℕ) (count k i : ℕ) → k < count → i < 2 → get_or (get_or (first_chunks 2 count xs) k []) i 0 ≡ get_or xs (2 * k + i) 0
chunk_at xs zero k i l u = absurd (omega arith)
chunk_at xs (suc count) zero i l u = get_or-take 2 xs i 0 u ∙ ap (λ (j : ℕ). get_or xs j 0) (omega arith)
chunk_at xs (suc count) (suc k) i l u =
    chunk_at (drop 2 xs) count k i (omega arith) u ∙ get_or-drop 2 xs (2 * k + i) 0 ∙ ap (λ (j : ℕ). get_or xs j 0) (omega arith)

pub paired : (list : List ℕ) {ps : List (List ℕ)} → ps ≡ first_chunks 2 (pairs list) list → length ps ≡ pairs list → Paired list ps
unfolding end
paired list e long =
    record {
      long = long;
      from_is = λ k l. rw e (chunk_at list (pairs list) k 0 l (omega arith) ∙ ap (λ (i : ℕ). get_or list i 0) (omega arith));
      to_is = λ k l. rw e (chunk_at list (pairs list) k 1 l (omega arith) ∙ ap (λ (i : ℕ). get_or list i 0) (omega arith));
    }

module _ {list : List ℕ} {ps : List (List ℕ)} (h : Paired list ps) {k : ℕ} (l : k < pairs list) {x : ℕ} (ex : x ≡ get_or (get_or ps k []) 0 0) where
  pub from_here : x ≡ end Out list (k + 1)
  from_here = ex ∙ h.from_is k l

  pub small_from : EntriesUpTo list most_processes → x ≤ most_processes
  small_from z = omega (arith, from_here, z Out (k + 1) (omega arith) (omega arith))

  pub unfit_from : (n : ℕ) → false ≡ is_process n x → ends_fit n list (k + 1) ≡ false
  unfolding ends_fit
  unfit_from n e = rw (← from_here, ← e)

  module _ {y : ℕ} (ey : y ≡ get_or (get_or ps k []) 1 0) where
    pub to_here : y ≡ end In list (k + 1)
    to_here = ey ∙ h.to_is k l

    pub small_to : EntriesUpTo list most_processes → y ≤ most_processes
    small_to z = omega (arith, to_here, z In (k + 1) (omega arith) (omega arith))

    pub unfit_to : (n : ℕ) → true ≡ is_process n x → false ≡ is_process n y → ends_fit n list (k + 1) ≡ false
    unfolding ends_fit
    unfit_to n e f = rw (← from_here, ← to_here, ← e, ← f)

    pub fit_both : (n : ℕ) → true ≡ is_process n x → true ≡ is_process n y → ends_fit n list (k + 1) ≡ true
    unfolding ends_fit
    fit_both n e f = rw (← from_here, ← to_here, ← e, ← f)
