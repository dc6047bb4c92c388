-- The eight rows marked P of 01, "Checks at the start from process 1 (P = to be proved)", under both editions (02, N4) and with their marks
-- (02, N3). RowLaws proves them together: row_holds says that each row of the list holds of the table that the writer makes of its waits,
-- under each edition.
--   PRow            == a row: N, waits, D, verdict (knot or not) under the first and the second edition, outside, mark (returned or not)
--   rows            == the eight rows
--   waits_from x, table_from x   == the waits of a row, and the table that the writer makes of its list
--   knot_under ed x  == the row's verdict under an edition
--   ran_from w ed    == the check from process 1 under an edition, run on to the end
--   RowOfTable x ed bs   == the bytes bs are a table with the row's waits, and all that the row says of this edition holds of it
-- Assumes nothing.
use Rattle.std.specs.Prelude.{ℕ, Bool, true, false, List, [], ◌∷◌, ◌≡◌, eqb, take, replicate, pos, Ok}
use Rattle.base.specs.Choice.{choose}
use Rattle.tables.specs.Table.{field_of, table_length}
use Rattle.tables.specs.Layout.{MeetsLayout}
use Rattle.tables.specs.Waits.{Waits, waits_of}
use Rattle.table_writer.specs.Writing.{pairs, given_waits, written}
use Rattle.machine.specs.declared.Ran.{Ran}
use Rattle.machine.specs.Calls.{RanOn}
use Rattle.steps.specs.declared.Message.{Message}
use Rattle.steps.specs.declared.Process.{Process}
use Rattle.checks.specs.declared.Verdict.TheVariants.{Knot, Free}
use Rattle.checks.specs.declared.Mark.TheVariants.{Returned, Held}
use Rattle.checks.specs.Run.{most_deliveries, start_run}
use Rattle.checks.specs.Calls.{run_on, report}
use Rattle.checks.specs.Reach.{in_knot, outsiders, lowest_outsider, all_wait, d_of}

-- ---- the table

-- "N | waits | D | verdict | outside"; the waits as the writer takes them, from and to by turns. second is the verdict under the second edition:
-- "Under 2 the rows "none" and "2-1" of 01 give verdict none with outside 0; the row "1-1" stays a knot." (02, N4). returned is the mark: "Waits
-- 1-2, 2-3, 3-2 are marked held, yet payment 1 can never be funded" no more (02, N3)
pub record PRow : Type 0 where
  pub n : ℕ
  pub waits : List ℕ
  pub d : ℕ
  pub knot : Bool
  pub second : Bool
  pub outside : ℕ
  pub returned : Bool

unfoldable pub rows : List PRow
rows =
    record { n = 1; waits = []; d = 0; knot = true; second = false; outside = 0; returned = false } ∷
    record { n = 1; waits = 1 ∷ 1 ∷ []; d = 4; knot = true; second = true; outside = 0; returned = true } ∷
    record { n = 2; waits = 1 ∷ 2 ∷ []; d = 2; knot = false; second = false; outside = 1; returned = false } ∷
    record { n = 2; waits = 2 ∷ 1 ∷ []; d = 2; knot = true; second = false; outside = 0; returned = false } ∷
    record { n = 2; waits = 1 ∷ 2 ∷ 2 ∷ 1 ∷ []; d = 8; knot = true; second = true; outside = 0; returned = true } ∷
    record { n = 3; waits = 1 ∷ 2 ∷ 2 ∷ 3 ∷ 3 ∷ 1 ∷ []; d = 12; knot = true; second = true; outside = 0; returned = true } ∷
    record { n = 3; waits = 1 ∷ 2 ∷ 2 ∷ 1 ∷ 2 ∷ 3 ∷ []; d = 10; knot = false; second = false; outside = 1; returned = false } ∷
    record { n = 3; waits = 1 ∷ 2 ∷ 2 ∷ 3 ∷ 3 ∷ 2 ∷ []; d = 6; knot = false; second = false; outside = 2; returned = true } ∷ []

-- the waits of a row, and its table: what the writer makes of N and the list
unfoldable pub waits_from : PRow → Waits
waits_from x = given_waits x.n x.waits

abbrev pub table_size : PRow → ℕ
table_size x = table_length x.n (pairs x.waits)

unfoldable pub table_from : PRow → List ℕ
table_from x = take (table_size x) (written x.n x.waits (replicate (table_size x) 0))

-- "judged by the edition named at start" (02, N4)
abbrev pub knot_under : ℕ → PRow → Bool
knot_under ed x = choose (eqb ed 2) x.second x.knot

-- start at process 1, then running on for as many deliveries as a run may have
abbrev pub ran_from : Waits → ℕ → RanOn Process Message
ran_from w ed = run_on most_deliveries (start_run w 1 ed)

-- ---- a row of an accepted table

-- the bytes are a table with the row's waits, and D, verdict, outside and mark are the row's, by the definitions and by running the check, which
-- names as escape whom the definition names
pub record RowOfTable (x : PRow) (ed : ℕ) (bs : List ℕ) : Type 0 where
  pub accepted : MeetsLayout bs
  pub waits : waits_of (field_of bs) ≡ waits_from x
  pub d : d_of (waits_of (field_of bs)) 1 ≡ x.d
  pub knot : in_knot (waits_of (field_of bs)) 1 ed ≡ knot_under ed x
  pub outside : outsiders (waits_of (field_of bs)) 1 ≡ x.outside
  pub returned : all_wait (waits_of (field_of bs)) 1 ≡ x.returned
  pub over : (ran_from (waits_of (field_of bs)) ed).answer ≡ Ok (Ran.Over x.d)
  pub reported : report (ran_from (waits_of (field_of bs)) ed).run
      ≡ Ok
      (record {
        deliveries = x.d;
        verdict = choose (knot_under ed x) Knot Free;
        outside = pos x.outside;
        escape = lowest_outsider (waits_of (field_of bs)) 1;
        mark = choose x.returned Returned Held;
      })
