-- Start on any table bytes, process number, edition and lent words (01, "Steps", "Refused because of the input"; 02, N4).
--   start_number bs s ed w    == "start 1 to 9" in order, 30 after 8 and before 9; 0 if none is met
--   start_answer, start_area   == start's answer, and the area that it leaves
--   started_by                == the answer with a number
-- Assumes nothing.
use Rattle.std.specs.Prelude.{ℕ, Result}
use mathlib.Core.{Bool.not, List.List}
use lib.{Dec.eqb, Dec.ltb, ListN.length, IntN.ℤ}
use Rattle.base.specs.Choice.{choose}
use Rattle.tables.specs.{Table.field_of, Table.n_of, Table.m_of, Table.is_process, Reading.read_number, Waits.waits_of}
use Rattle.checks.specs.Run.{is_edition, start_run}
use Rattle.areas.specs.{Places.area_length, Area.stored}
use Rattle.refusals.specs.{declared.Refusal.Refusal, Numbers.answered}

-- "Reading a table checks 1 to 7 in order, start 1 to 9." 02, N4: "It refuses any other edition with 30, after 8 and before 9."
unfoldable pub start_number : List ℕ → ℕ → ℕ → List ℤ → ℕ
start_number bs s ed w =
    choose (not (eqb (read_number bs) 0)) (read_number bs)
    (choose (not (is_process (n_of (field_of bs)) s)) 8
    (choose (not (is_edition ed)) 30
    (choose (ltb (length w) (area_length (n_of (field_of bs)) (m_of (field_of bs)))) 9
    0)))

abbrev pub started_by : ℕ → Result (Unit {0}) Refusal
started_by k = answered k tt

unfoldable pub start_answer : List ℕ → ℕ → ℕ → List ℤ → Result (Unit {0}) Refusal
start_answer bs s ed w = started_by (start_number bs s ed w)

-- the area that an accepted start leaves
unfoldable pub start_area : List ℕ → ℕ → ℕ → List ℤ → List ℤ
start_area bs s ed w = choose (eqb (start_number bs s ed w) 0) (stored (field_of bs) (start_run (waits_of (field_of bs)) s ed) w) w
