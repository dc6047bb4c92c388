-- Laws on the answer of a start, one for each way that the code goes.
--   start_read       == reading the table refused
--   start_few, start_n, start_m   == N and M of an accepted table are small, and are those of its fields
--   Met, start_met   == the table is accepted, and what the rows 8, 30 and 9 then say
--   start_row        == one of these is met
--   startable, start_ready   == what all the checks leave, and the answer then
-- Assumes nothing.
use Rattle.std.proofs.Common.{ℕ, zero, suc, ◌≤◌, Bool, List, ◌≡◌, refl, sym, ap, ◌∙◌, arith, ltb, length, ℤ, Result, Ok, Err}
use borrow.Author.Tests.{ne_eqb}
use Rattle.refusals.specs.declared.Refusal.{Refusal}
use Rattle.refusals.specs.Numbers.{numbered, answered}
use Rattle.tables.specs.declared.Sizes.{Sizes}
use Rattle.tables.specs.Table.{field_of, n_of, m_of, most_processes, most_arcs, is_process}
use Rattle.tables.specs.Reading.{read_number, reading_of}
use Rattle.tables.specs.Waits.{waits_of}
use Rattle.checks.specs.Run.{is_edition, start_run}
use Rattle.areas.specs.Places.{area_length}
use Rattle.areas.specs.Area.{stored}
use Rattle.beginning.specs.Starting.{Startable}
use Rattle.starting.specs.Rows.{row_met}
use Rattle.starting.specs.StartCallLaws.{start_number_startable}
use Rattle.starting.specs.StartCall.{start_number, started_by, start_answer, start_area}
use Rattle.tables.specs.ReadingLaws.{refused_told, accepted_told}

-- the answer a and the area l are those of a start
pub record Starts (bs : List ℕ) (s ed : ℕ) (w : List ℤ) (a : Result (Unit {0}) Refusal) (l : List ℤ) : Type 0 where
  pub answer : a ≡ start_answer bs s ed w
  pub area : l ≡ start_area bs s ed w

-- an accepted table with its N and M, and k the first of 8, 30 and 9 that is met
pub record Met (bs : List ℕ) (s ed : ℕ) (w : List ℤ) (sizes : Sizes) (k : ℕ) : Type 0 where
  pub number_is : start_number bs s ed w ≡ k
  pub n_is : sizes.n ≡ n_of (field_of bs)
  pub m_is : sizes.m ≡ m_of (field_of bs)

module _ (bs : List ℕ) (s ed : ℕ) (w : List ℤ) where
  some : (k : ℕ) → suc k ≡ 0 → ⊥
  some k z = omega arith

  -- the same refusal with another type beside it
  refused : {A : Type 0} (x : A) {e : Refusal} (k : ℕ) → start_number bs s ed w ≡ k → answered k x ≡ Err e → Starts bs s ed w (Err e) w
  unfolding start_answer start_area
  refused x zero n f = absurd (let z : ◌≡◌ {A = ℕ} 0 1 = cc in omega arith)
  refused x {e} (suc k) n f =
      let g : e ≡ numbered (suc k) = cc in
      record { answer = rw n (ap Err g); area = rw (n, ne_eqb (suc k) 0 (some k)) refl }

  pub start_read : {x : Result Sizes Refusal} → x ≡ reading_of bs → {e : Refusal} → x ≡ Err e → Starts bs s ed w (Err e) w
  unfolding start_number reading_of
  start_read is {e} f =
      let told = refused_told bs e (sym is ∙ f) in
      refused _ (read_number bs) (rw (ne_eqb (read_number bs) 0 (λ z. told.some (sym told.number ∙ z))) refl) (sym is ∙ f)

  module _ {x : Result Sizes Refusal} (is : x ≡ reading_of bs) {sizes : Sizes} (f : x ≡ Ok sizes) where
    pub start_few : (sizes.n ≤ most_processes) × (sizes.m ≤ most_arcs)
    start_few = let told = accepted_told bs sizes (sym is ∙ f) in (told.few, told.arcs_few)

    start_n : sizes.n ≡ n_of (field_of bs)
    start_n = (accepted_told bs sizes (sym is ∙ f)).processes

    start_m : sizes.m ≡ m_of (field_of bs)
    start_m = (accepted_told bs sizes (sym is ∙ f)).arcs

    pub start_met : {process named short : Bool} → process ≡ is_process sizes.n s → named ≡ is_edition ed
        → short ≡ ltb (length w) (area_length sizes.n sizes.m) → Met bs s ed w sizes (row_met process named short)
    unfolding start_number
    start_met ep ev el =
        record { number_is = rw ((accepted_told bs sizes (sym is ∙ f)).number, ← start_n, ← start_m, ep, ev, el) refl; n_is = start_n; m_is = start_m }

module _ {bs : List ℕ} {s ed : ℕ} {w : List ℤ} {sizes : Sizes} {k : ℕ} (h : Met bs s ed w sizes k) where
  -- 8, 30 or 9
  pub start_row : {e : Refusal} → started_by k ≡ Err e → Starts bs s ed w (Err e) w
  start_row f = refused bs s ed w tt k h.number_is f

  module _ (z : k ≡ 0) where
    pub startable : Startable bs sizes.n sizes.m s ed w
    startable = rw (h.n_is, h.m_is) (start_number_startable bs s ed w (h.number_is ∙ z))

    pub start_ready : (l : List ℤ) → l ≡ stored (field_of bs) (start_run (waits_of (field_of bs)) s ed) w → Starts bs s ed w (Ok tt) l
    unfolding start_answer start_area
    start_ready l f = record { answer = rw (h.number_is ∙ z) refl; area = rw (h.number_is ∙ z) f }
