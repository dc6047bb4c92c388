-- The rows of a start behind those of its table.
--   row_met p v l       == the first of the rows 8, 30 and 9 that is met, by the tests of the process, of the edition and of too few words
-- Assumes nothing.
use Rattle.std.specs.Prelude.{ℕ, Bool, not}
use Rattle.base.specs.Choice.{choose}

-- start "1 to 9", 30 "after 8 and before 9" (02, N4): what start_number (StartCall) says of an accepted table
abbrev pub row_met : Bool → Bool → Bool → ℕ
row_met process named short = choose (not process) 8 (choose (not named) 30 (choose short 9 0))
