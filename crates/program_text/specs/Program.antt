-- What the check program prints for an input (01, "The check program"), as one function of the input's bytes, whatever they are.
--   enough              == words enough for any check
--   number_in bs         == "The program checks 13, 1, 2, 3, 12, then 4 to 8", then 30 (02, N4): the first that is met, 0 if none is
--   first_run bs         == the run that start begins
--   picks_on bs j k      == k picks of the input, from pick j on, as calls
--   pick_calls bs        == "then picks (from, to, 16 bits each)": all of them, in order
--   picked_run bs        == the run after the picks
--   end_run r            == "After the picks it runs on to the end": the run that this leaves of r
--   pick_line a b d      == the line of a pick, by its answer
--   picks_text bs j k r  == the lines of k picks from pick j on, from the run r on
--   own_line d           == the line of a delivery that the program chose itself, by its answer
--   unless_refused d t   == what follows it: t, or nothing after a refusal
--   next_chosen r        == the delivery that the program chooses in the run r
--   own_text k r         == the lines of up to k such deliveries, from the run r on, until it is over
--   processes_text r     == "process lines rise"
--   report_lines x       == the report's lines
--   end_text r           == the processes, then the report
--   rest_text r          == what the program delivers itself from the run r on, then the end
--   check_text bs        == the picks, then the rest
--   program_text bs      == EVERYTHING THAT IS PRINTED: these, or "only `refused` and the number"
-- Assumes nothing.
use Rattle.std.specs.Prelude.{ℕ, zero, suc, true, false, List, [], ◌∷◌, ◌++◌, eqb, ℤ, pos, replicate, Result, Ok, Err}
use Rattle.refusals.specs.declared.Refusal.{Refusal}
use Rattle.refusals.specs.Numbers.{number}
use Rattle.base.specs.Choice.{choose}
use Rattle.tables.specs.Table.{field_of, most_processes, most_arcs}
use Rattle.tables.specs.Waits.{waits_of}
use Rattle.machine.specs.Calls.{in_row, lowest}
use Rattle.machine.specs.Lists.{Call, picking}
use Rattle.steps.specs.declared.Message.{Message}
use Rattle.checks.specs.declared.Report.{Report}
use Rattle.checks.specs.Run.{Run, knot, over, start_run}
use Rattle.checks.specs.Calls.{pick, run_on, report}
use Rattle.checks.specs.Lists.{passed}
use Rattle.areas.specs.Places.{area_length}
use Rattle.choosing.specs.declared.ChosenDelivery.{ChosenDelivery}
use Rattle.choosing.specs.Answers.{chosen_answer, next_of}
use Rattle.inputs.specs.Input.{start_in, edition_in, table_in, picks_in, pick_from, pick_to, begun_number}
use Rattle.lines.specs.Text.{delivery_line, refused_pick_line, refused_line, process_line, text_of}

-- ---- the input

-- words enough for any check, so that 9 is not met
abbrev pub enough : List ℤ
enough = replicate (area_length most_processes most_arcs) (pos 0)

-- "The program checks 13, 1, 2, 3, 12, then 4 to 8", then 30 (02, N4)
abbrev pub number_in : List ℕ → ℕ
number_in bs = begun_number bs enough

-- ---- the run

-- "start process (16 bits)", the edition (02, N4), "table": the run that start begins
abbrev pub first_run : List ℕ → Run
first_run bs = start_run (waits_of (field_of (table_in bs))) (start_in bs) (edition_in bs)

-- k picks from pick j on, counted from 0; 02, N5: "Program picks keep their form and mean place 1"
unfoldable pub picks_on : List ℕ → ℕ → ℕ → List Call
picks_on bs j zero = []
picks_on bs j (suc k) = picking (pick_from bs j) (pick_to bs j) 1 ∷ picks_on bs (suc j) k

-- "then picks (from, to, 16 bits each)"
abbrev pub pick_calls : List ℕ → List Call
pick_calls bs = picks_on bs 0 (picks_in bs)

-- the run after the picks
abbrev pub picked_run : List ℕ → Run
picked_run bs = (passed (pick_calls bs) (first_run bs)).left

-- "After the picks it runs on to the end": no run counts more deliveries than these ("accepted deliveries, 0 to 2048")
abbrev pub end_run : Run → Run
end_run r = (run_on knot.most r).run

-- ---- the lines

-- `pick 1 2 suc`; "A refused pick prints its number and the program goes on (`pick 1 2 refused 24`)"
abbrev pub pick_line : ℕ → ℕ → Result Message Refusal → List ℕ
pick_line a b (Ok m) = delivery_line false a b m
pick_line a b (Err e) = refused_pick_line a b (number e)

-- k picks from pick j on, each in the run that the one before it left
unfoldable pub picks_text : List ℕ → ℕ → ℕ → Run → List ℕ
picks_text bs j zero r = []
picks_text bs j (suc k) r =
    pick_line (pick_from bs j) (pick_to bs j) (pick r (pick_from bs j) (pick_to bs j) 1).answer
    ++ picks_text bs (suc j) k (pick r (pick_from bs j) (pick_to bs j) 1).run

-- `own 2 1 ack 1 1`; a refusal, which never comes (program_own in ProgramLaws), prints its number
abbrev pub own_line : Result ChosenDelivery Refusal → List ℕ
own_line (Ok d) = delivery_line true d.from d.to d.message
own_line (Err e) = refused_line (number e)

-- .. and ends it
abbrev pub unless_refused : Result ChosenDelivery Refusal → List ℕ → List ℕ
unless_refused (Ok d) rest = rest
unless_refused (Err e) rest = []

-- the delivery in the fixed order, "lowest receiver first and then lowest sender" (02, N11), with its link
abbrev pub next_chosen : Run → Result ChosenDelivery Refusal
next_chosen r = chosen_answer (lowest r) (next_of r).answer

-- up to k such deliveries, until the run is over
unfoldable pub own_text : ℕ → Run → List ℕ
own_text zero r = []
own_text (suc k) r = elim (over r) [ true ↦ [] | false ↦ own_line (next_chosen r) ++ unless_refused (next_chosen r) (own_text k (next_of r).run) ]

-- "process lines rise"
unfoldable pub processes_text : Run → List ℕ
processes_text r = in_row r.waits.n (λ p. process_line p (r.process p))

-- "deliveries; the report"
abbrev pub report_lines : Result Report Refusal → List ℕ
report_lines (Ok x) = text_of x
report_lines (Err e) = refused_line (number e)

-- the processes, then the report
unfoldable pub end_text : Run → List ℕ
end_text r = processes_text r ++ report_lines (report r)

-- what the program delivers itself, then the end
unfoldable pub rest_text : Run → List ℕ
rest_text r = own_text knot.most r ++ end_text (end_run r)

-- the picks, then the rest
unfoldable pub check_text : List ℕ → List ℕ
check_text bs = picks_text bs 0 (picks_in bs) (first_run bs) ++ rest_text (picked_run bs)

-- "An input refusal prints only `refused` and the number."
unfoldable pub program_text : List ℕ → List ℕ
program_text bs = choose (eqb (number_in bs) 0) (check_text bs) (refused_line (number_in bs))
