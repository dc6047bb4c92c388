-- The calls on the words that a start left, and any list of them. Each call reads the run that the area holds, does what `checks`
-- defines, and stores the run again; an area that is not well formed gets 21 and keeps every word.
--   pick_answer w a b k, pick_area w a b k   == a pick of place k
--   run_on_answer k w, run_on_area k w       == running on
--   shuffled_answer k seed w, shuffled_area k seed w   == running on with a seed (02, N13)
--   report_answer w                       == the report
--   read_answer w p                       == reading one process's record
--   area_passed_by c w, area_passed cs w    == one call, and a list: "each call gets the area as the last one left it"
--   as_run p                              == what a list left, with the run in the place of the area that holds it
--   AreaPromise w s ed old n p           == what is said of every list: the area is well formed, its run keeps the promise of crate checks,
--                                           and the words from n on are those of old
-- Assumes nothing.
use Rattle.std.specs.Prelude.{ℕ, Result, Err}
use mathlib.Core.{List.List, List.[], List.◌∷◌, Path.◌≡◌, Bool.true}
use lib.{IntN.ℤ, ListN.drop}
use Rattle.base.specs.Choice.{choose}
use Rattle.tables.specs.Waits.{Waits}
use Rattle.refusals.specs.{declared.Refusal.Refusal, Numbers.numbered}
use Rattle.machine.specs.{declared.Ran.Ran, declared.Halted.Halted, Calls.halted, Calls.ran_number, Calls.ran_made}
use Rattle.machine.specs.Lists.{Call, picking, running_on, running_shuffled, reporting, reading, Passed, in_turn}
use Rattle.steps.specs.declared.{Message.Message, Process.Process}
use Rattle.checks.specs.declared.Report.{Report}
use Rattle.checks.specs.Calls.{pick, run_on, run_shuffled, report, read_record, delivery_number, delivery_made, report_number, reading_number}
use Rattle.checks.specs.{Run.Run, Lists.Promise}
use Rattle.areas.specs.Area.{keeping, run_in, area_right}

unfoldable pub pick_answer : List ℤ → ℕ → ℕ → ℕ → Result Message Refusal
pick_answer w a b k = choose (area_right w) (pick (run_in w) a b k).answer (Err (numbered 21))

unfoldable pub pick_area : List ℤ → ℕ → ℕ → ℕ → List ℤ
pick_area w a b k = choose (area_right w) (keeping w (pick (run_in w) a b k).run) w

unfoldable pub run_on_answer : ℕ → List ℤ → Result Ran Halted
run_on_answer k w = choose (area_right w) (run_on k (run_in w)).answer (halted 21 0)

unfoldable pub run_on_area : ℕ → List ℤ → List ℤ
run_on_area k w = choose (area_right w) (keeping w (run_on k (run_in w)).run) w

unfoldable pub shuffled_answer : ℕ → ℕ → List ℤ → Result Ran Halted
shuffled_answer k seed w = choose (area_right w) (run_shuffled k seed (run_in w)).answer (halted 21 0)

unfoldable pub shuffled_area : ℕ → ℕ → List ℤ → List ℤ
shuffled_area k seed w = choose (area_right w) (keeping w (run_shuffled k seed (run_in w)).run) w

unfoldable pub report_answer : List ℤ → Result Report Refusal
report_answer w = choose (area_right w) (report (run_in w)) (Err (numbered 21))

unfoldable pub read_answer : List ℤ → ℕ → Result Process Refusal
read_answer w p = choose (area_right w) (read_record (run_in w) p) (Err (numbered 21))

-- ---- lists of calls (01, "The end of a check")

-- one call; a report and a reading change no word
abbrev pub area_passed_by : Call → List ℤ → Passed (List ℤ)
area_passed_by (picking a b k) w =
    record { left = pick_area w a b k; made = delivery_made (pick_answer w a b k); numbers = delivery_number (pick_answer w a b k) ∷ [] }
area_passed_by (running_on k) w = record { left = run_on_area k w; made = ran_made (run_on_answer k w); numbers = ran_number (run_on_answer k w) ∷ [] }
area_passed_by (running_shuffled k seed) w =
    record { left = shuffled_area k seed w; made = ran_made (shuffled_answer k seed w); numbers = ran_number (shuffled_answer k seed w) ∷ [] }
area_passed_by reporting w = record { left = w; made = 0; numbers = report_number (report_answer w) ∷ [] }
area_passed_by (reading p) w = record { left = w; made = 0; numbers = reading_number (read_answer w p) ∷ [] }

-- "each call gets the area as the last one left it, and nobody else writes it meanwhile"
abbrev pub area_passed : List Call → List ℤ → Passed (List ℤ)
area_passed = in_turn area_passed_by

abbrev pub as_run : Passed (List ℤ) → Passed Run
as_run p = record { left = run_in p.left; made = p.made; numbers = p.numbers }

-- what is said of every list of calls on an area of n words that a start at s under the edition ed left in the words old
pub record AreaPromise (w : Waits) (s ed : ℕ) (old : List ℤ) (n : ℕ) (p : Passed (List ℤ)) : Type 0 where
  -- the area is well formed: no call of a list gets 21
  pub right : area_right p.left ≡ true
  -- the promise of crate checks, of the run that the area holds
  pub promise : Promise w s ed (as_run p)
  -- "Surplus words are not touched."
  pub surplus : drop n p.left ≡ drop n old
