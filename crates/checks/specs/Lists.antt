-- What is said of every list of calls on a knot check (01, "The end of a check"). Lists are the machine's (crate machine, Lists).
--   asked              == the numbers that the report and the reading of a record answer
--   passed cs r        == the list: "each call gets the area as the last one left it"
--   Ended w s ed r     == what is said of a run that is over, started at s under the edition ed
--   Promise w s ed p   == what is said of every list, with p what the list left
-- Assumes nothing.
use Rattle.std.specs.Prelude.{ℕ, ◌≤◌, true, false, ◌≡◌, ◌↔◌, eqb, length, pos, Ok}
use mathlib.Core.List.{List, [], ◌∷◌, Memᴰ}
use Rattle.base.specs.Choice.{bit, choose}
use Rattle.tables.specs.Waits.{Waits}
use Rattle.tables.specs.Table.{IsProcess}
use Rattle.machine.specs.Calls.{fixed_order}
use Rattle.machine.specs.Lists.{Call, Passed, in_turn, Reads, passed_by, Waiting}
use Rattle.steps.specs.declared.Message.{Message}
use Rattle.steps.specs.declared.Process.{Process}
use Rattle.checks.specs.declared.Verdict.TheVariants.{Knot, Free}
use Rattle.checks.specs.declared.Mark.TheVariants.{Returned, Held}
use Rattle.checks.specs.Run.{Run, most_waiting, knot, over}
use Rattle.checks.specs.Calls.{report, read_record, report_number, reading_number}
use Rattle.checks.specs.Reach.{reaches, in_knot, outsider, outsiders, lowest_outsider, all_wait, sinks, d_of}

-- the numbers of the two calls that leave the run as it is
abbrev pub asked : Reads Process Message
asked = record { report = λ r. report_number (report r); reading = λ r p. reading_number (read_record r p) }

-- "each call gets the area as the last one left it"
abbrev pub passed : List Call → Run → Passed Run
passed = in_turn (passed_by knot fixed_order asked)

-- "0, but the start's": a sum that is v at the start alone
unfoldable pub at_start : ℕ → ℕ → ℕ → ℕ
at_start s v p = choose (eqb p s) v 0

-- what is said of a run that is over
pub record Ended (w : Waits) (s ed : ℕ) (r : Run) : Type 0 where
  -- "When it is over none waits"
  pub none_waits : (a b : ℕ) → IsProcess w.n a → IsProcess w.n b → r.link a b ≡ []
  -- "a report gives D, knot exactly if .., as outside the number of those that do not"; as escape the lowest of them, 0 if none (02, N1);
  -- "Verdicts are judged by the edition named at start" (02, N4); "returned exactly if every process reachable from the start, itself
  -- included, waits for somebody" (02, N3)
  pub reports : report r
      ≡ Ok
      (record {
        deliveries = d_of w s;
        verdict = choose (in_knot w s ed) Knot Free;
        outside = pos (outsiders w s);
        escape = lowest_outsider w s;
        mark = choose (all_wait w s) Returned Held;
      })
  -- "Each process then has .."
  pub succeeding : (p : ℕ) → IsProcess w.n p → (r.process p).succeeding ≡ bit (reaches w s p)
  pub preceding : (p : ℕ) → IsProcess w.n p → (r.process p).preceding ≡ bit (reaches w p s)
  pub subordinate : (p : ℕ) → IsProcess w.n p → (r.process p).subordinate ≡ bit (outsider w s p)
  pub num : (p : ℕ) → IsProcess w.n p → (r.process p).num ≡ 0
  pub cs : (p : ℕ) → IsProcess w.n p → (r.process p).cs ≡ pos (at_start s (outsiders w s) p)
  -- 02, N3: "0 everywhere but at the start, which has the number of such processes"
  pub second : (p : ℕ) → IsProcess w.n p → (r.process p).second ≡ pos (at_start s (sinks w s) p)

-- "After every list, the empty one too, .."
pub record Promise (w : Waits) (s ed : ℕ) (p : Passed Run) : Type 0 where
  -- "A is at most D"
  pub at_most : p.made ≤ d_of w s
  -- "and is the run's count"
  pub counted : p.left.count ≡ p.made
  -- "the run is over exactly when A is D"
  pub over_at_d : (over p.left ≡ true) ↔ (p.made ≡ d_of w s)
  -- "otherwise a message waits on some link, and a pick can take it"; each that waits, at its place (02, N5)
  pub goes_on : over p.left ≡ false → Waiting knot w p.left
  -- "When it is over .."
  pub ended : over p.left ≡ true → Ended w s ed p.left
  -- 02, N4: "Open payments keep the edition they began under."
  pub edition : p.left.edition ≡ ed
  -- the numbers that occur: "22 never occurs in a run made by start and deliveries", whichever message is taken, nor does 21
  pub answers : (n : ℕ) → Memᴰ n p.numbers → Memᴰ n (0 ∷ 23 ∷ 24 ∷ 25 ∷ 26 ∷ 31 ∷ 37 ∷ [])
  -- "with at most 4 messages waiting"
  pub at_most_4 : (a b : ℕ) → IsProcess w.n a → IsProcess w.n b → length (p.left.link a b) ≤ most_waiting
