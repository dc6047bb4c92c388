-- What each call of a knot check does and answers (01, "Steps" and "Refused because of the state"; 02, N1, N3, N4 and N5). Picks and running on
-- are the machine's (crate machine, Calls), by the knot check's rules.
--   Picked             == an answer and the run that a delivery leaves
--   pick r a b k       == a pick of place k checks 21, 25, 23, 24, 31, 22
--   run_on k r          == "Running on checks 21 first, then over, then spent, then 24, 22.", in the fixed order
--   is_subordinate x, escape_of r   == "escape is the lowest-numbered process with subordinate 1, and 0 only where there is none" (02, N1)
--   is_zero z, verdict_of r   == whether a sum is 0; the verdict, by the edition named at start (02, N4)
--   mark_of x           == the mark, by the record x of the start (02, N3)
--   report r           == "The report checks 21, 26"
--   read_record r p     == "reading one process's record checks 21, 25"
--   delivery_number, delivery_made, report_number, reading_number   == for each case of an answer 01's number
-- Assumes nothing.
use Rattle.std.specs.Prelude.{ℕ, zero, suc, Bool, true, false, not, ◌&&◌, List, eqb, ℤ, pos, negsuc, Result, Ok, Err}
use Rattle.tables.specs.Table.{is_process}
use Rattle.base.specs.{Choice.choose, Sums.lowest_to}
use Rattle.refusals.specs.declared.Refusal.{Refusal}
use Rattle.refusals.specs.Numbers.{numbered, number_of}
use Rattle.machine.specs.Calls.{Answer, given, refusal, Selection, fixed_order, RanOn}
use Rattle.machine.specs.Calls as Machines
use Rattle.steps.specs.declared.Message.{Message}
use Rattle.steps.specs.declared.Process.{Process}
use Rattle.checks.specs.declared.Verdict.{Verdict}
use Rattle.checks.specs.declared.Verdict.TheVariants.{Knot, Free}
use Rattle.checks.specs.declared.Mark.{Mark}
use Rattle.checks.specs.declared.Mark.TheVariants.{Returned, Held}
use Rattle.checks.specs.declared.Report.{Report}
use Rattle.checks.specs.{Run.Run, Run.knot, Run.over, Run.well_formed, Reach.edition_allows}

-- ---- a pick

pub record Picked : Type 0 where
  pub answer : Result Message Refusal
  pub run : Run

-- "A refusal returns its number .. and changes no lent byte or word"
abbrev pub refused : ℕ → Run → Picked
refused n r = record { answer = Err (numbered n); run = r }

-- the machine's answer as the code gives it
abbrev pub delivery_of : Answer Message → Result Message Refusal
delivery_of (given m) = Ok m
delivery_of (refusal e) = Err e

abbrev pub answering : Machines.Picked Process Message → Picked
answering p = record { answer = delivery_of p.answer; run = p.run }

-- 24, "nothing waits on that link", then 31, 22: "It answers with that message."
abbrev pub deliver : Run → ℕ → ℕ → ℕ → List Message → Picked
deliver r a b k ms = answering (Machines.deliver knot r a b k ms)

-- "A pick may name a place" (02, N5); it checks 21, 25, 23, 24, 31, 22
abbrev pub pick : Run → ℕ → ℕ → ℕ → Picked
pick r a b k = answering (Machines.pick knot r a b k)

-- ---- running on

-- the delivery on the chosen link: 24 where there is none
abbrev pub deliver_on : Run → Selection → Picked
deliver_on r c = answering (Machines.deliver_on knot r c)

-- "Running on makes up to k deliveries", 02, N11: "lowest receiver first and then lowest sender", among links with a message
abbrev pub run_on : ℕ → Run → RanOn Process Message
run_on k r = Machines.run_on knot fixed_order k 0 r

-- 02, N13: "Running on may take a 32-bit seed"; it checks 21, 37, then over, spent, 24, 22
abbrev pub run_shuffled : ℕ → ℕ → Run → RanOn Process Message
run_shuffled k seed r = Machines.run_shuffled knot k seed r

-- ---- the report

-- "with subordinate 1"
abbrev pub is_subordinate : Process → Bool
is_subordinate x = eqb x.subordinate 1

-- 02, N1: "escape is the lowest-numbered process with subordinate 1, and 0 only where there is none"
unfoldable pub escape_of : Run → ℕ
escape_of r = lowest_to r.waits.n (λ p. is_subordinate (r.process p))

-- "cs of s is 0"
abbrev pub is_zero : ℤ → Bool
is_zero (pos zero) = true
is_zero (pos (suc n)) = false
is_zero (negsuc n) = false

-- "verdict knot if cs of s is 0, else none"; "judged by the edition named at start" (02, N4)
unfoldable pub verdict_of : Run → Verdict
verdict_of r = choose (is_zero (r.process r.start).cs && edition_allows r.waits r.start r.edition) Knot Free

-- 02, N3: "The report marks returned if the start's second sum is 0, else held."
abbrev pub mark_of : Process → Mark
mark_of x = choose (is_zero x.second) Returned Held

-- "over count; verdict ..; outside = cs of s; escape ..; mark .."
unfoldable pub reported : Run → Report
reported r =
    record {
      deliveries = r.count;
      verdict = verdict_of r;
      outside = (r.process r.start).cs;
      escape = escape_of r;
      mark = mark_of (r.process r.start);
    }

-- "The report checks 21, 26"
unfoldable pub report : Run → Result Report Refusal
report r =
    choose (not (well_formed r)) (Err (numbered 21))
    (choose (not (over r)) (Err (numbered 26))
    (Ok (reported r)))

-- ---- reading a record

-- "reading one process's record checks 21, 25"
unfoldable pub read_record : Run → ℕ → Result Process Refusal
read_record r p =
    choose (not (well_formed r)) (Err (numbered 21))
    (choose (not (is_process r.waits.n p)) (Err (numbered 25))
    (Ok (r.process p)))

-- ---- 01's number for each case of an answer, 0 where nothing is refused

abbrev pub delivery_number : Result Message Refusal → ℕ
delivery_number x = number_of x

-- a pick is accepted if it delivers
abbrev pub delivery_made : Result Message Refusal → ℕ
delivery_made (Ok m) = 1
delivery_made (Err e) = 0

abbrev pub report_number : Result Report Refusal → ℕ
report_number x = number_of x

abbrev pub reading_number : Result Process Refusal → ℕ
reading_number x = number_of x
