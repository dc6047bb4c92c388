-- Laws on opening a walk, one for each way that the code goes, from what reading the table answered.
--   opened_of_read     == reading refused
--   opened_of_8        == it accepted, and p is no process
--   opened_of_at       == it accepted, and p is a process
--   opened_long       == it accepted, and the record of p lies inside the bytes
-- Assumes nothing.
use Rattle.std.specs.Prelude.{Result, Ok, Err}
use Rattle.refusals.specs.declared.Refusal.{Refusal}
use Rattle.refusals.specs.Numbers.{number, numbered, answered}
use Rattle.refusals.specs.NumberLaws.{number_back}
use Prim.Native.Nat.{ℕ, zero, suc, ◌+◌, ◌*◌, ◌≤◌}
use mathlib.Core.Bool.{Bool, true, false, not}
use mathlib.Core.List.{List}
use mathlib.Core.Path.{◌≡◌, sym, ap, ◌∙◌}
use borrow.Author.Tests.{not-true, not-false}
use native.Mathlib.Omega.{arith}
use lib.ListN.{length}
use Rattle.tables.specs.declared.Chain.{Chain}
use Rattle.tables.specs.declared.Sizes.{Sizes}
use Rattle.tables.specs.Table.{field_of, n_of, is_process, first}
use Rattle.tables.specs.TableLaws.{is_process_P}
use Rattle.tables.specs.Reading.{read_number, reading_of}
use Rattle.tables.specs.Walking.{or_else, open_number, opened_of}
use Rattle.tables.specs.ReadingLaws.{accepted_told, refused_told}
use Rattle.tables.specs.ReadingFacts.{Accepts, Refuses}

open_answer_refused : (q r k : ℕ) → q ≡ r → (r ≡ 0 → ⊥) → Err (numbered r) ≡ answered q k
open_answer_refused zero r k e d = absurd (d (sym e))
open_answer_refused (suc q) r k e d = ap (λ (j : ℕ). Err (numbered j)) (sym e)

or_else_first : (q r s : ℕ) → q ≡ r → (r ≡ 0 → ⊥) → or_else q s ≡ r
unfolding or_else
or_else_first zero r s e d = absurd (d (sym e))
or_else_first (suc q) r s e d = e

module _ (bs : List ℕ) (c : Chain) (p : ℕ) (w : Result Sizes Refusal) (ew : w ≡ reading_of bs) where
  pub opened_of_read : (e : Refusal) → w ≡ Err e → Err e ≡ opened_of bs c p
  unfolding opened_of open_number
  opened_of_read e f =
      let told : Refuses bs (number e) = refused_told bs e (sym ew ∙ f) in
      ap Err (sym (number_back e))
      ∙ open_answer_refused (open_number bs p) (number e) (first c (field_of bs) p) (or_else_first (read_number bs) (number e) _ told.number told.some) told.some

  module _ (sizes : Sizes) (e : w ≡ Ok sizes) (b : Bool) (eb : b ≡ is_process sizes.n p) where
    told : Accepts bs sizes.n sizes.m
    told = accepted_told bs sizes (sym ew ∙ e)

    process : is_process (n_of (field_of bs)) p ≡ b
    process = ap (λ (i : ℕ). is_process i p) (sym told.processes) ∙ sym eb

    pub opened_of_8 : not b ≡ true → Err Refusal.Process ≡ opened_of bs c p
    unfolding opened_of open_number or_else
    opened_of_8 h = rw (told.number, process, not-true b h)

    pub opened_of_at : not b ≡ false → (k : ℕ) → k ≡ first c (field_of bs) p → Ok k ≡ opened_of bs c p
    unfolding opened_of open_number or_else
    opened_of_at h k ek = rw (told.number, process, not-false b h) (ap Ok ek)

    pub opened_long : not b ≡ false → 4 * p + 4 ≤ length bs
    opened_long h =
        let range = (is_process_P sizes.n p).0 (sym eb ∙ not-false b h) in
        omega (arith, range.1, told.long)
