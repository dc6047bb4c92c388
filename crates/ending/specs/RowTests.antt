-- The rows as tests, so that one computation proves them together. A reader need not believe these: RowLaws turns what they compute into
-- RowOfTable (Rows).
--   defined ed x    == the definitions of D, of knot under an edition, of outside and of the mark give what the row says
--   runs ed x       == the check from process 1 under it is over after D deliveries, and its report gives what the row says
--   writable x      == the writer takes the row's list
--   holds x         == all three, under both editions
--   agree, is_knot, is_returned, is_at, over_after, reports, all   == what these are made of
-- Assumes nothing.
use Rattle.std.specs.Prelude.{ℕ, Bool, true, false, not, ◌&&◌, List, [], ◌∷◌, eqb, ℤ, pos, negsuc, Result, Ok, Err}
use Rattle.refusals.specs.declared.Refusal.{Refusal}
use Rattle.table_writer.specs.Writing.{write_number}
use Rattle.machine.specs.declared.Ran.{Ran}
use Rattle.machine.specs.declared.Ran.TheVariants.{Spent}
use Rattle.machine.specs.declared.Halted.{Halted}
use Rattle.checks.specs.declared.Verdict.{Verdict}
use Rattle.checks.specs.declared.Verdict.TheVariants.{Knot, Free}
use Rattle.checks.specs.declared.Mark.{Mark}
use Rattle.checks.specs.declared.Mark.TheVariants.{Returned, Held}
use Rattle.checks.specs.declared.Report.{Report}
use Rattle.checks.specs.Calls.{report}
use Rattle.checks.specs.Reach.{in_knot, outsiders, lowest_outsider, all_wait, d_of}
use Rattle.ending.specs.Rows.{PRow, waits_from, table_size, knot_under, ran_from}

unfoldable pub agree : Bool → Bool → Bool
agree true b = b
agree false b = not b

unfoldable pub is_knot : Verdict → Bool
is_knot Knot = true
is_knot Free = false

unfoldable pub is_returned : Mark → Bool
is_returned Returned = true
is_returned Held = false

-- an integer is this number
unfoldable pub is_at : ℤ → ℕ → Bool
is_at (pos n) k = eqb n k
is_at (negsuc n) k = false

-- D, the verdict, outside and the mark, by their definitions
unfoldable pub defined : ℕ → PRow → Bool
defined ed x =
    eqb (d_of (waits_from x) 1) x.d && agree (in_knot (waits_from x) 1 ed) (knot_under ed x) && eqb (outsiders (waits_from x) 1) x.outside &&
    agree (all_wait (waits_from x) 1) x.returned

unfoldable pub over_after : ℕ → Result Ran Halted → Bool
over_after d (Ok (Ran.Over made)) = eqb made d
over_after d (Ok (Spent made)) = false
over_after d (Err h) = false

-- a report with the row's values, and the escape that the definition names
unfoldable pub reports : ℕ → PRow → Result Report Refusal → Bool
reports ed x (Ok r) =
    eqb r.deliveries x.d && agree (is_knot r.verdict) (knot_under ed x) && is_at r.outside x.outside &&
    eqb r.escape (lowest_outsider (waits_from x) 1) && agree (is_returned r.mark) x.returned
reports ed x (Err e) = false

unfoldable pub runs : ℕ → PRow → Bool
runs ed x = over_after x.d (ran_from (waits_from x) ed).answer && reports ed x (report (ran_from (waits_from x) ed).run)

-- the writer takes the row's list
unfoldable pub writable : PRow → Bool
writable x = eqb (write_number x.n x.waits (table_size x)) 0

unfoldable pub holds_under : ℕ → PRow → Bool
holds_under ed x = defined ed x && runs ed x && writable x

unfoldable pub holds : PRow → Bool
holds x = holds_under 1 x && holds_under 2 x

unfoldable pub all : (PRow → Bool) → List PRow → Bool
all p [] = true
all p (x ∷ xs) = p x && all p xs
