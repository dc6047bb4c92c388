-- The number of a start, and an accepted one.
--   start_low                == the number is one of 0 to 13, or 30
--   start_said               == it is the number of start's answer
--   start_number_startable   == what a start that no row refuses says of its table, its process and its words
-- Assumes nothing.
use Rattle.std.specs.Prelude.{ℕ, ◌≤◌, Bool, true, false, not, List, ◌⊎◌, ◌≡◌, refl, eqb, ltb, length, ℤ}
use Rattle.std.proofs.Common.{inl, inr, arith, ltb-false}
use Rattle.refusals.specs.Numbers.{answered, number_of}
use Rattle.refusals.specs.NumberLaws.{number_of_low}
use Rattle.tables.specs.ReadingLaws.{read_number_low}
use Rattle.tables.specs.TableLaws.{is_process_P}
use Rattle.base.specs.Choice.{choose}
use Rattle.base.specs.ChoiceLaws.{tested, same?}
use Rattle.base.specs.Checks.{Tested, passed, failed, Same, same, apart}
use Rattle.tables.specs.Table.{field_of, n_of, m_of, is_process}
use Rattle.tables.specs.Reading.{read_number}
use Rattle.tables.specs.LayoutLaws.{accepted_P}
use Rattle.checks.specs.Run.{is_edition}
use Rattle.checks.specs.RunLaws.{is_edition_P}
use Rattle.areas.specs.Places.{area_length}
use Rattle.starting.specs.StartCall.{start_number, start_answer}
use Rattle.beginning.specs.Starting.{Startable}

-- the numbers of the rows that a start checks
abbrev pub Low : ℕ → Type 0
Low k = (k ≤ 13) ⊎ (k ≡ 30)

pub choose_low : (b : Bool) (m n : ℕ) → Low m → Low n → Low (choose b m n)
choose_low true m n p q = p
choose_low false m n p q = q

pub low_said : {A : Type 0} (k : ℕ) (x : A) → Low k → number_of (answered k x) ≡ k
low_said k x (inl h) = number_of_low k x h
low_said k x (inr e) = rw e

pub start_low : (bs : List ℕ) (s ed : ℕ) (w : List ℤ) → Low (start_number bs s ed w)
unfolding start_number
start_low bs s ed w =
    choose_low (not (eqb (read_number bs) 0)) _ _ (inl (omega (arith, read_number_low bs)))
    (choose_low (not (is_process (n_of (field_of bs)) s)) _ _ (inl (omega arith))
    (choose_low (not (is_edition ed)) _ _ (inr refl)
    (choose_low (ltb (length w) (area_length (n_of (field_of bs)) (m_of (field_of bs)))) _ _ (inl (omega arith)) (inl (omega arith)))))

pub start_said : (bs : List ℕ) (s ed : ℕ) (w : List ℤ) → number_of (start_answer bs s ed w) ≡ start_number bs s ed w
unfolding start_answer
start_said bs s ed w = low_said _ _ (start_low bs s ed w)

pub start_number_startable : (bs : List ℕ) (s ed : ℕ) (w : List ℤ) → start_number bs s ed w ≡ 0
    → Startable bs (n_of (field_of bs)) (m_of (field_of bs)) s ed w
unfolding start_number
start_number_startable bs s ed w e =
    at (same? (read_number bs) 0) (tested (is_process n s)) (tested (is_edition ed)) (tested (ltb (length w) (area_length n m))) e
  where
    n : ℕ
    n = n_of (field_of bs)

    m : ℕ
    m = m_of (field_of bs)

    -- a refusal's number is not 0
    not_zero : (r : ℕ) → 1 ≤ r → r ≡ 0 → ⊥
    not_zero r h z = omega arith

    at : Same (read_number bs) 0 → Tested (is_process n s) → Tested (is_edition ed) → Tested (ltb (length w) (area_length n m))
        → choose (not (eqb (read_number bs) 0)) (read_number bs)
        (choose (not (is_process n s)) 8 (choose (not (is_edition ed)) 30 (choose (ltb (length w) (area_length n m)) 9 0))) ≡ 0
        → Startable bs n m s ed w
    at (apart d f) p v l q = absurd (d (rw f at q))
    at (same d f) (failed p) v l q = absurd (not_zero 8 (omega arith) (rw (f, p) at q))
    at (same d f) (passed p) (failed v) l q = absurd (not_zero 30 (omega arith) (rw (f, p, v) at q))
    at (same d f) (passed p) (passed v) (passed l) q = absurd (not_zero 9 (omega arith) (rw (f, p, v, l) at q))
    at (same d f) (passed p) (passed v) (failed l) q =
        record {
          accepted = (accepted_P bs).0 d;
          n_is = refl;
          m_is = refl;
          start_is_in = (is_process_P n s).0 p;
          edition = (is_edition_P ed).0 v;
          long = ltb-false (length w) (area_length n m) l;
        }
