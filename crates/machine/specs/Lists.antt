-- Lists of calls (01, "The end of a check"; 02, N13), for any check, on a run or on whatever holds one.
--   Call               == "a pick, running on, the report, reading a process's record"; and running on with a seed (02, N13)
--   Passed S           == what a list leaves, the number A, and the numbers that its calls answered
--   in_turn one cs s    == the calls cs from s on, one after the other: "each call gets the area as the last one left it"
--   Reads P M          == the number that a report, and the reading of a record, answers: both leave the run as it is
--   passed_by           == one call on a run
--   SomeWaits w r      == a message waits on some link
--   Taken ρ r a b k    == a message waits at place k of the link from a to b, and the pick that names it takes it
--   Waiting ρ w r      == a message waits on some link, and every one that waits is taken by the pick that names its place
-- Assumes nothing.
use Rattle.std.specs.Prelude.{ℕ, ◌+◌, ◌≤◌, List, [], ◌∷◌, ◌++◌, ◌≡◌, length}
use Rattle.refusals.specs.Numbers.{number}
use Rattle.tables.specs.{Table.IsProcess, Waits.Waits}
use Rattle.machine.specs.Machine.{Machine, Rules}
use Rattle.machine.specs.Calls.{Answer, given, refusal, cut, at_place, Chooser, pick, run_on, run_shuffled, ran_number, ran_made}

-- "The lists of demand 3 hold four calls: a pick, running on, the report, reading a process's record."
-- a pick names a sender, a receiver and a place (02, N5); a shuffled running on the number of deliveries and the seed (02, N13)
pub data Call : Type 0 where
  picking : ℕ → ℕ → ℕ → Call
  running_on : ℕ → Call
  running_shuffled : ℕ → ℕ → Call
  reporting : Call
  reading : ℕ → Call

pub record Passed (S : Type 0) : Type 0 where
  pub left : S
  -- "A is the number of accepted picks in the list plus the numbers made that its runnings on gave."
  pub made : ℕ
  -- the number of each answer, 0 where nothing was refused
  pub numbers : List ℕ

-- "each call gets the area as the last one left it"
unfoldable pub in_turn : {S : Type 0} → (Call → S → Passed S) → List Call → S → Passed S
in_turn one [] s = record { left = s; made = 0; numbers = [] }
in_turn one (c ∷ cs) s =
    record {
      left = (in_turn one cs (one c s).left).left;
      made = (one c s).made + (in_turn one cs (one c s).left).made;
      numbers = (one c s).numbers ++ (in_turn one cs (one c s).left).numbers;
    }

pub record Reads (P M : Type 0) : Type 0 where
  pub report : Machine P M → ℕ
  pub reading : Machine P M → ℕ → ℕ

module _ {M : Type 0} where
  -- a pick is accepted if it delivers
  abbrev pub accepted_pick : Answer M → ℕ
  accepted_pick (given m) = 1
  accepted_pick (refusal e) = 0

  abbrev pub answer_number : Answer M → ℕ
  answer_number (given m) = 0
  answer_number (refusal e) = number e

module _ {P M : Type 0} (ρ : Rules P M) (next : Chooser P M) (asked : Reads P M) where
  -- one call; running on begins with the chooser's state 0
  abbrev pub passed_by : Call → Machine P M → Passed (Machine P M)
  passed_by (picking a b k) r =
      record { left = (pick ρ r a b k).run; made = accepted_pick (pick ρ r a b k).answer; numbers = answer_number (pick ρ r a b k).answer ∷ [] }
  passed_by (running_on k) r =
      record { left = (run_on ρ next k 0 r).run; made = ran_made (run_on ρ next k 0 r).answer; numbers = ran_number (run_on ρ next k 0 r).answer ∷ [] }
  passed_by (running_shuffled k seed) r =
      record {
        left = (run_shuffled ρ k seed r).run;
        made = ran_made (run_shuffled ρ k seed r).answer;
        numbers = ran_number (run_shuffled ρ k seed r).answer ∷ [];
      }
  passed_by reporting r = record { left = r; made = 0; numbers = asked.report r ∷ [] }
  passed_by (reading p) r = record { left = r; made = 0; numbers = asked.reading r p ∷ [] }

-- a message waits on some link between processes
pub record SomeWaits {P M : Type 0} (w : Waits) (r : Machine P M) : Type 0 where
  pub sender : ℕ
  pub receiver : ℕ
  pub sender_in : IsProcess w.n sender
  pub receiver_in : IsProcess w.n receiver
  pub some : 1 ≤ length (r.link sender receiver)

-- a message waits at place k of the link from a to b, and the pick that names it takes it
pub record Taken {P M : Type 0} (ρ : Rules P M) (r : Machine P M) (a b k : ℕ) : Type 0 where
  pub message : M
  pub rest : List M
  pub waits : at_place k (r.link a b) ≡ cut message rest
  pub accepted : (pick ρ r a b k).answer ≡ given message

-- a message waits on some link; and every message that waits on any link can be taken, at its place (02, N5)
pub record Waiting {P M : Type 0} (ρ : Rules P M) (w : Waits) (r : Machine P M) : Type 0 where
  pub somewhere : SomeWaits w r
  pub each : (a b k : ℕ) → IsProcess w.n a → IsProcess w.n b → 1 ≤ k → k ≤ length (r.link a b) → Taken ρ r a b k
