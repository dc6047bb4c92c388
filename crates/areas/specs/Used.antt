-- Which words of the area's layout are in use, for leaves and laws. The words behind them are kept free.
--   check_place    == the word that says which check an area belongs to
--   head_used      == how many words before the table are in use: which check, the start, the accepted deliveries, the edition
--   record_used    == how many words of a process's record are in use: flags, cs, num, father, the second sum
--   link_slots     == how many words of a link hold messages
--   Counts z      == the word z is a number of 0 or more
--   Counted w k   == so are the words of flags, num and father of the record at word k
-- Assumes nothing.
use Rattle.std.specs.Prelude.{ℕ, ◌+◌, List, ◌≡◌, ℤ, pos, nat_abs, get_or}
use Rattle.checks.specs.Run.{most_waiting}
use Rattle.areas.specs.Places.{edition_place, flags_place, num_place, father_place, second_place}

abbrev pub check_place : ℕ
check_place = 0

abbrev pub head_used : ℕ
head_used = edition_place + 1

abbrev pub record_used : ℕ
record_used = second_place + 1

abbrev pub link_slots : ℕ
link_slots = most_waiting

abbrev pub Counts : ℤ → Type 0
Counts z = z ≡ pos (nat_abs z)

pub record Counted (w : List ℤ) (k : ℕ) : Type 0 where
  pub flags : Counts (get_or w (k + flags_place) (pos 0))
  pub num : Counts (get_or w (k + num_place) (pos 0))
  pub father : Counts (get_or w (k + father_place) (pos 0))
