-- What can be repeated (02, N13: "Shuffled runs that can be repeated. Load days need orders anyone can repeat.").
--   says_in c w         == the whole answer of a call on an area
--   Repeated n p q     == what is said of two lists of calls on two areas of which n words are in use: they came to the same
-- Assumes nothing.
use Rattle.std.specs.Prelude.{ℕ, List, ◌≡◌}
use lib.{IntN.ℤ, ListN.take}
use Rattle.machine.specs.Lists.{Call, picking, running_on, running_shuffled, reporting, reading, Passed}
use Rattle.ending.specs.Orders.{Told, picked, ran, reported, read}
use Rattle.areas.specs.Area.{run_in}
use Rattle.area_calls.specs.AreaCalls.{pick_answer, run_on_answer, shuffled_answer, report_answer, read_answer}

abbrev pub says_in : Call → List ℤ → Told
says_in (picking a b k) w = picked (pick_answer w a b k)
says_in (running_on k) w = ran (run_on_answer k w)
says_in (running_shuffled k seed) w = ran (shuffled_answer k seed w)
says_in reporting w = reported (report_answer w)
says_in (reading p) w = read (read_answer w p)

pub record Repeated (n : ℕ) (p q : Passed (List ℤ)) : Type 0 where
  pub run : run_in p.left ≡ run_in q.left
  pub made : p.made ≡ q.made
  pub numbers : p.numbers ≡ q.numbers
  -- every next call answers the same, in all that it says; what the calls within a list answer is said of the lists that end before them
  pub answers : (c : Call) → says_in c p.left ≡ says_in c q.left
  -- every word in use is the same; "Surplus words are not touched", so these are each area's own
  pub words : take n p.left ≡ take n q.left
