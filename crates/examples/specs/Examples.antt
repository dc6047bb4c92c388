-- 01's numbers by example, to be held against its two tables of refusals and its ranges by eye. Each line is a call, what it is given and what
-- it answers, by computation. Where a line is to show the order of two checks, what it is given meets the later one too; where it is to show the
-- end of a range, it has the last value in or the first value out.
--   table n m ps ks     == the bytes of a table: N, M, first-out and first-in of each process, from, to, next-out and next-in of each arc
--   met1 .. met7        == bytes that meet row 1 .. 7 and later rows; one, both and fork are accepted tables
--   process_of s p b c n f    == a record: succeeding, preceding, subordinate, cs, num, father. root c n is a start's; in idle all values are 0
--   numbered k          == the refusal with 01's number k; halted k n is the answer of a running on that it ended, after n deliveries
--   taken x p y, told d v o e m   == the answers of a step and of a report, value by value
--   two s d x y forth back   == a run on the wait 1-2: the start, the accepted deliveries, the records of 1 and 2, the messages from 1 to 2 and
--                          those from 2 to 1. receiving y m is one in which m waits for 2, and area r is the words that hold the run r
-- The others are in States. Assumes nothing.
use Rattle.std.specs.Prelude.{ℕ, true, false, ◌≡◌, refl, pos, get_or, take, drop, set, replicate, Some, None, Ok, Err}
use mathlib.Core.List.Memᴰ
use mathlib.Core.List.{[], ◌∷◌, ◌++◌, Memᴰ}
use Rattle.std.proofs.lemmas.Bool.{eqb-false}
use Rattle.refusals.specs.declared.Refusal.{Refusal}
use Rattle.refusals.specs.Numbers.{number, numbered}
use Rattle.tables.specs.declared.Chain.TheVariants.{Out, In}
use Rattle.tables.specs.Table.{field_of, sizes_fit}
use Rattle.tables.specs.Waits.{Waits, waits_of}
use Rattle.tables.specs.Reading.{read_number, reading_of}
use Rattle.tables.specs.Walking.{opened_of, opened_number, opened_arc, next_of, next_arc}
use Rattle.table_writer.specs.Writing.{write_number, writing_of, written}
use Rattle.machine.specs.declared.Ran.{Ran}
use Rattle.machine.specs.declared.Halted.{Halted}
use Rattle.machine.specs.Calls.{nobody, pair, halted, links_of, drawn, ran_number, ran_made}
use Rattle.machine.specs.Lists.{Passed}
use Rattle.steps.specs.declared.Message.TheVariants.{Suc, Pre, Ack}
use Rattle.steps.specs.declared.Probes.{Probes}
use Rattle.steps.specs.declared.Probes.TheVariants.{Sucs, Pres}
use Rattle.steps.specs.Step.{idle, acknowledgement, stepped, start_stepped}
use Rattle.steps.specs.Effect.{counts_replied}
use Rattle.checks.specs.declared.Verdict.TheVariants.{Knot, Free}
use Rattle.checks.specs.declared.Mark.TheVariants.{Returned, Held}
use Rattle.checks.specs.Run.{Run, start_run}
use Rattle.checks.specs.Reach.{lowest_outsider, all_wait, sinks}
use Rattle.checks.specs.Calls.{pick, run_on, run_shuffled, escape_of, report, read_record, delivery_number, delivery_made, report_number, reading_number}
use Rattle.checks.specs.Lists.{Promise}
use Rattle.areas.specs.Used.{check_place}
use Rattle.areas.specs.Area.{run_in}
use Rattle.starting.specs.StartCall.{start_number, start_answer, start_area}
use Rattle.area_calls.specs.AreaCalls.{pick_answer, pick_area, run_on_answer, run_on_area, shuffled_answer, shuffled_area, report_answer, read_answer}
use Rattle.lending.specs.Lent.{lent_answer, lent_record}
use Rattle.inputs.specs.Input.{input_number, begun_number, begun_area}
use Rattle.lines.specs.Text.{bytes, message_text, verdict_line, mark_line}
use Rattle.host_values.specs.TableValues.{number_of, n_found, m_found, writing_number, written_length, started_number}
use Rattle.host_values.specs.Values.{delivery_kind, delivery_counts, ran_over, report_count, report_knot, report_outside, report_escape, report_returned}
use Rattle.host_values.specs.Values.{reading_process, stepped_number, stepped_probes, stepped_reply}
use Rattle.host_values.specs.Interface.{chain_of, message_of, process_of, probes_number, reply_receiver}
use Rattle.host_values.specs.Versions.{version_number, library_version}
use Rattle.examples.specs.States.{minus, low_first, table, one, both, fork, alone, loop, met1, met2, met3, met4, met5, met6, met7, input, words, root}
use Rattle.examples.specs.States.{beside, counted, only, plain, root_with, sending, taken, told, two, under, receiving, three, everywhere, loads, unlinked, area, answers}
use Rattle.examples.specs.Computing.{computing}

-- ==== Refused because of the input

-- ---- "Reading a table checks 1 to 7 in order": met1 meets 1 and later rows, met2 meets 2 and every later row, and so on

reading_in_order :
    (read_number met1 ≡ 1) ×  -- under 4 bytes
    (read_number met2 ≡ 2) ×  -- N or M outside its range
    (read_number met3 ≡ 3) ×  -- table length wrong
    (read_number met4 ≡ 4) ×  -- a from or to is 0 or over N
    (read_number met5 ≡ 5) ×  -- a first or next over M
    (read_number met6 ≡ 6) ×  -- a chain meets an arc twice, meets a foreign one or misses one
    (read_number met7 ≡ 7) ×  -- two arcs agree in from and to
    (read_number both ≡ 0) ×
    (reading_of met4 ≡ Err (numbered 4)) ×
    (reading_of both ≡ Ok (record { n = 2; m = 2 }))
unfolding computing
reading_in_order = (refl, refl, refl, refl, refl, refl, refl, refl, refl, refl)

-- "With input `01 00 02 00 01 00 01 00 00 00 00 00 01 00 01 00 02 00 00 00 00 00 ..`", which "gains `01 00`" after the start process (02, N4): the
-- table of one wait, 1 for 2
the_table_of_01 :
    (input 1 1 one ≡ 1 ∷ 0 ∷ 1 ∷ 0 ∷ 2 ∷ 0 ∷ 1 ∷ 0 ∷ 1 ∷ 0 ∷ 0 ∷ 0 ∷ 0 ∷ 0 ∷ 1 ∷ 0 ∷ 1 ∷ 0 ∷ 2 ∷ 0 ∷ 0 ∷ 0 ∷ 0 ∷ 0 ∷ []) ×
    (reading_of one ≡ Ok (record { n = 2; m = 1 }))
unfolding computing
the_table_of_01 = (refl, refl)

-- "N 128 passes, and so do M 0 and M 512; N 0, N 129 and M 513 give 2": with N 128 and M 512 four bytes pass 2 and meet 3. 3 bytes meet 1 and 4
-- do not; "The length is exactly 4 + 4N + 8M bytes"
reading_sizes :
    (read_number (0 ∷ 0 ∷ 0 ∷ []) ≡ 1) ×
    (read_number (low_first (0 ∷ 0 ∷ [])) ≡ 2) ×
    (read_number (low_first (1 ∷ 0 ∷ 0 ∷ 0 ∷ [])) ≡ 0) ×
    (read_number (low_first (128 ∷ 0 ∷ replicate 256 0)) ≡ 0) ×
    (read_number (low_first (129 ∷ 0 ∷ replicate 258 0)) ≡ 2) ×
    (read_number (low_first (128 ∷ 512 ∷ [])) ≡ 3) ×
    (read_number (low_first (128 ∷ 513 ∷ [])) ≡ 2) ×
    (read_number (take 19 one) ≡ 3) ×
    (read_number (take 20 one) ≡ 0) ×
    (read_number (one ++ (0 ∷ [])) ≡ 3) ×
    (sizes_fit 0 0 ≡ false) × (sizes_fit 1 0 ≡ true) × (sizes_fit 128 512 ≡ true) × (sizes_fit 129 512 ≡ false) × (sizes_fit 128 513 ≡ false)
unfolding computing
reading_sizes = (refl, refl, refl, refl, refl, refl, refl, refl, refl, refl, refl, refl, refl, refl, refl)

-- each reason of 4, 5 and 6, on the table of one wait with one field changed
reading_reasons :
    (read_number (table 2 1 ((1, 0) ∷ (0, 1) ∷ []) ((1, 2, 0, 0) ∷ [])) ≡ 0) ×
    (read_number (table 2 1 ((1, 0) ∷ (0, 1) ∷ []) ((0, 2, 0, 0) ∷ [])) ≡ 4) ×
    (read_number (table 2 1 ((1, 0) ∷ (0, 1) ∷ []) ((3, 2, 0, 0) ∷ [])) ≡ 4) ×
    (read_number (table 2 1 ((1, 0) ∷ (0, 1) ∷ []) ((1, 0, 0, 0) ∷ [])) ≡ 4) ×
    (read_number (table 2 1 ((1, 0) ∷ (0, 1) ∷ []) ((1, 3, 0, 0) ∷ [])) ≡ 4) ×
    (read_number (table 2 1 ((2, 0) ∷ (0, 1) ∷ []) ((1, 2, 0, 0) ∷ [])) ≡ 5) ×
    (read_number (table 2 1 ((1, 2) ∷ (0, 1) ∷ []) ((1, 2, 0, 0) ∷ [])) ≡ 5) ×
    (read_number (table 2 1 ((1, 0) ∷ (0, 1) ∷ []) ((1, 2, 2, 0) ∷ [])) ≡ 5) ×
    (read_number (table 2 1 ((1, 0) ∷ (0, 1) ∷ []) ((1, 2, 0, 2) ∷ [])) ≡ 5) ×
    (read_number (table 2 1 ((1, 0) ∷ (0, 1) ∷ []) ((1, 2, 1, 0) ∷ [])) ≡ 6) ×  -- the out-chain of 1 meets arc 1 twice
    (read_number (table 2 1 ((1, 0) ∷ (0, 1) ∷ []) ((1, 2, 0, 1) ∷ [])) ≡ 6) ×  -- the in-chain of 2 does
    (read_number (table 2 1 ((1, 0) ∷ (1, 1) ∷ []) ((1, 2, 0, 0) ∷ [])) ≡ 6) ×  -- the out-chain of 2 meets a foreign one
    (read_number (table 2 1 ((1, 1) ∷ (0, 1) ∷ []) ((1, 2, 0, 0) ∷ [])) ≡ 6) ×  -- the in-chain of 1 does
    (read_number (table 2 1 ((0, 0) ∷ (0, 1) ∷ []) ((1, 2, 0, 0) ∷ [])) ≡ 6) ×  -- the out-chain of 1 misses arc 1
    (read_number (table 2 1 ((1, 0) ∷ (0, 0) ∷ []) ((1, 2, 0, 0) ∷ [])) ≡ 6)  -- the in-chain of 2 does
unfolding computing
reading_reasons = (refl, refl, refl, refl, refl, refl, refl, refl, refl, refl, refl, refl, refl, refl, refl)

-- "they may be equal (a loop)"; "Chain order is free"; 7 "two arcs agree in from and to": agreeing in one of them is no refusal
reading_accepted :
    (read_number (table 1 1 ((1, 1) ∷ []) ((1, 1, 0, 0) ∷ [])) ≡ 0) ×
    (read_number fork ≡ 0) ×
    (read_number (table 3 2 ((1, 0) ∷ (0, 1) ∷ (0, 2) ∷ []) ((1, 2, 2, 0) ∷ (1, 3, 0, 0) ∷ [])) ≡ 0) ×
    (read_number (table 3 2 ((1, 0) ∷ (0, 2) ∷ (2, 0) ∷ []) ((1, 2, 0, 0) ∷ (3, 2, 0, 1) ∷ [])) ≡ 0)
unfolding computing
reading_accepted = (refl, refl, refl, refl)

-- ---- a walk: "Opening it names a process and its out- or in-chain, checks 1 to 7, then 8 for that process"

opening_in_order :
    (opened_of met1 Out 0 ≡ Err (numbered 1)) ×
    (opened_of met2 Out 0 ≡ Err (numbered 2)) ×
    (opened_of met3 Out 0 ≡ Err (numbered 3)) ×
    (opened_of met4 Out 0 ≡ Err (numbered 4)) ×
    (opened_of met5 Out 0 ≡ Err (numbered 5)) ×
    (opened_of met6 Out 0 ≡ Err (numbered 6)) ×
    (opened_of met7 Out 0 ≡ Err (numbered 7)) ×
    (opened_of fork Out 0 ≡ Err (numbered 8)) ×  -- process 0 or over N
    (opened_of fork In 4 ≡ Err (numbered 8))
unfolding computing
opening_in_order = (refl, refl, refl, refl, refl, refl, refl, refl, refl)

-- "stands at the chain's first arc, or 0 if it has none"; "A step gives the next arc or the end; from an arc number that is 0, over M or past
-- the lent bytes it gives the end" (the bytes have a next-out at the place of arc 0 and at that of arc 3)
walk_steps :
    (opened_of fork Out 1 ≡ Ok 2) ×
    (opened_of fork In 1 ≡ Ok 0) ×
    (opened_of fork In 3 ≡ Ok 2) ×
    (next_of fork Out 2 ≡ Some 1) ×
    (next_of fork Out 1 ≡ None) ×
    (next_of fork In 2 ≡ None) ×
    (next_of both Out 0 ≡ None) ×
    (next_of (fork ++ low_first (1 ∷ 1 ∷ 1 ∷ 1 ∷ [])) Out 3 ≡ None) ×
    (next_of (take 31 fork) Out 2 ≡ None) ×
    (next_of (take 3 fork) Out 2 ≡ None)
unfolding computing
walk_steps = (refl, refl, refl, refl, refl, refl, refl, refl, refl, refl)

-- ---- "The writer checks 10, 2, 4, 7, 11": N, the list, and the bytes of output; each line repairs what the line above met

writing_in_order :
    (write_number 0 (1 ∷ 3 ∷ 1 ∷ 3 ∷ 1 ∷ []) 19 ≡ 10) ×  -- odd number of list entries
    (write_number 0 (1 ∷ 3 ∷ 1 ∷ 3 ∷ []) 19 ≡ 2) ×  -- N or M outside its range
    (write_number 2 (1 ∷ 3 ∷ 1 ∷ 3 ∷ []) 19 ≡ 4) ×  -- a from or to is 0 or over N
    (write_number 3 (1 ∷ 3 ∷ 1 ∷ 3 ∷ []) 19 ≡ 7) ×  -- two arcs agree in from and to
    (write_number 3 (1 ∷ 3 ∷ 3 ∷ 1 ∷ []) 31 ≡ 11) ×  -- output too short
    (write_number 3 (1 ∷ 3 ∷ 3 ∷ 1 ∷ []) 32 ≡ 0)
unfolding computing
writing_in_order = (refl, refl, refl, refl, refl, refl)

-- N 128, M 0 and M 512 pass 2 (512 pairs 0-0 meet 4), N 0, N 129 and M 513 do not; from and to are 1 to N
writing_ranges :
    (write_number 0 [] 600 ≡ 2) ×
    (write_number 1 [] 600 ≡ 0) ×
    (write_number 128 [] 600 ≡ 0) ×
    (write_number 129 [] 600 ≡ 2) ×
    (write_number 128 (replicate 1024 0) 600 ≡ 4) ×
    (write_number 128 (replicate 1026 0) 600 ≡ 2) ×
    (write_number 2 (0 ∷ 2 ∷ []) 20 ≡ 4) ×
    (write_number 2 (3 ∷ 2 ∷ []) 20 ≡ 4) ×
    (write_number 2 (1 ∷ 0 ∷ []) 20 ≡ 4) ×
    (write_number 2 (1 ∷ 3 ∷ []) 20 ≡ 4) ×
    (write_number 2 (2 ∷ 2 ∷ []) 20 ≡ 0)
unfolding computing
writing_ranges = (refl, refl, refl, refl, refl, refl, refl, refl, refl, refl, refl)

-- "Arc k is pair k. Each arc is put at the front of its two chains, in list order. Output bytes past the table keep their values"; a refusal
-- "changes no lent byte"
writing_outputs :
    (written 3 (1 ∷ 2 ∷ 1 ∷ 3 ∷ []) (replicate 34 9) ≡ fork ++ (9 ∷ 9 ∷ [])) ×
    (writing_of 3 (1 ∷ 2 ∷ 1 ∷ 3 ∷ []) (replicate 34 9) ≡ Ok 32) ×
    (written 3 (1 ∷ 2 ∷ 1 ∷ []) (replicate 34 9) ≡ replicate 34 9) ×
    (written 0 (1 ∷ 2 ∷ 1 ∷ 3 ∷ []) (replicate 34 9) ≡ replicate 34 9) ×
    (written 2 (1 ∷ 2 ∷ 1 ∷ 3 ∷ []) (replicate 34 9) ≡ replicate 34 9) ×
    (written 3 (1 ∷ 2 ∷ 1 ∷ 2 ∷ []) (replicate 34 9) ≡ replicate 34 9) ×
    (written 3 (1 ∷ 2 ∷ 1 ∷ 3 ∷ []) (replicate 31 9) ≡ replicate 31 9) ×
    (writing_of 3 (1 ∷ 2 ∷ 1 ∷ 3 ∷ []) (replicate 31 9) ≡ Err (numbered 11))
unfolding computing
writing_outputs = (refl, refl, refl, refl, refl, refl, refl, refl)

-- ---- "start 1 to 9", and 30 "after 8 and before 9" (02, N4): "start needs 8N + 20M + 16" words, which is 72 with N 2 and M 2

start_in_order :
    (start_number met1 0 0 [] ≡ 1) ×
    (start_number met2 0 0 [] ≡ 2) ×
    (start_number met3 0 0 [] ≡ 3) ×
    (start_number met4 0 0 [] ≡ 4) ×
    (start_number met5 0 0 [] ≡ 5) ×
    (start_number met6 0 0 [] ≡ 6) ×
    (start_number met7 0 0 [] ≡ 7) ×
    (start_number both 0 0 [] ≡ 8) ×  -- start process 0 or over N
    (start_number both 3 3 [] ≡ 8) ×
    (start_number both 1 0 [] ≡ 30) ×  -- "any other edition"
    (start_number both 1 3 [] ≡ 30) ×
    (start_number both 2 65535 [] ≡ 30) ×
    (start_number both 2 65537 (words 72) ≡ 30) ×
    (start_number both 1 1 [] ≡ 9) ×  -- run area too short
    (start_number both 2 2 (words 71) ≡ 9) ×
    (start_number both 2 1 (words 72) ≡ 0) ×
    (start_number both 1 2 (words 72) ≡ 0)
unfolding computing
start_in_order = (refl, refl, refl, refl, refl, refl, refl, refl, refl, refl, refl, refl, refl, refl, refl, refl, refl)

-- a refusal "changes no lent byte or word"; "Surplus words are not touched"; "s sends suc to each successor, then pre to each predecessor; num
-- is the number sent"; the area holds "the edition named at start" (02, N4)
start_outcomes :
    (start_answer both 3 1 (words 72) ≡ Err (numbered 8)) ×
    (start_answer both 1 3 (words 72) ≡ Err (numbered 30)) ×
    (start_answer both 1 1 (words 72) ≡ Ok tt) ×
    (start_area met7 1 1 (words 72) ≡ words 72) ×
    (start_area both 3 1 (words 72) ≡ words 72) ×
    (start_area both 1 3 (words 72) ≡ words 72) ×
    (start_area both 1 1 (words 71) ≡ words 71) ×
    (drop 72 (start_area both 1 1 (words 74)) ≡ words 2) ×
    ((run_in (start_area both 1 1 (words 72))).edition ≡ 1) ×
    ((run_in (start_area both 1 2 (words 72))).edition ≡ 2) ×
    ((run_in (start_area both 1 1 (words 72))).process 1 ≡ plain 1 1 0 (pos 0) 2 0) ×
    ((run_in (start_area both 1 1 (words 72))).process 2 ≡ plain 0 0 0 (pos 0) 0 0) ×
    ((run_in (start_area both 1 1 (words 72))).link 1 2 ≡ Suc ∷ Pre ∷ []) ×
    (start_area one 1 1 (words 52) ≡ area (two 1 0 (plain 1 1 0 (pos 0) 1 0) idle (Suc ∷ []) []))
unfolding computing
start_outcomes = (refl, refl, refl, refl, refl, refl, refl, refl, refl, refl, refl, refl, refl, refl)

-- ---- "The program checks 13, 1, 2, 3, 12, then 4 to 8", then 30 (02, N4)

program_in_order :
    (begun_number (input 0 3 (low_first (129 ∷ 2 ∷ replicate 10236 0)) ++ (0 ∷ [])) (words 72) ≡ 13) ×  -- input over 20,480 bytes
    (begun_number (input 0 3 met1) (words 72) ≡ 1) ×  -- under 4 bytes, also under 4 before the table
    (begun_number (input 0 3 met2) (words 72) ≡ 2) ×
    (begun_number (input 0 3 met3) (words 72) ≡ 3) ×  -- too few bytes
    (begun_number (input 0 3 met4 ++ (1 ∷ [])) (words 72) ≡ 12) ×  -- 1 to 3 bytes left after the last whole pick
    (begun_number (input 0 3 met4 ++ (1 ∷ 0 ∷ 2 ∷ [])) (words 72) ≡ 12) ×
    (begun_number (input 0 3 met4 ++ (1 ∷ 0 ∷ 2 ∷ 0 ∷ [])) (words 72) ≡ 4) ×
    (begun_number (input 0 3 met5) (words 72) ≡ 5) ×
    (begun_number (input 0 3 met6) (words 72) ≡ 6) ×
    (begun_number (input 0 3 met7) (words 72) ≡ 7) ×
    (begun_number (input 0 3 both) (words 72) ≡ 8) ×
    (begun_number (input 3 0 both) (words 72) ≡ 8) ×
    (begun_number (input 2 0 both) (words 72) ≡ 30) ×  -- "any other edition"
    (begun_number (input 2 3 both) (words 72) ≡ 30) ×
    (begun_number (input 2 65535 both) (words 72) ≡ 30) ×
    (begun_number (input 2 256 both) (words 72) ≡ 30) ×  -- 1 as the high byte
    (begun_number (input 2 1 both) (words 72) ≡ 0) ×
    (begun_number (input 1 2 both ++ low_first (1 ∷ 2 ∷ 2 ∷ 1 ∷ [])) (words 72) ≡ 0)
unfolding computing
program_in_order = (refl, refl, refl, refl, refl, refl, refl, refl, refl, refl, refl, refl, refl, refl, refl, refl, refl, refl)

-- 20,480 bytes are read and 20,481 are not; 7 bytes meet 1 and 8 do not; after a pick 1, 2 or 3 bytes meet 12
program_sizes :
    (input_number (input 1 1 (low_first (1 ∷ 0 ∷ replicate 10236 0))) ≡ 0) ×
    (input_number (input 1 1 (low_first (1 ∷ 0 ∷ replicate 10236 0)) ++ (0 ∷ [])) ≡ 13) ×
    (input_number (input 1 1 (low_first (1 ∷ 0 ∷ replicate 10235 0)) ++ (0 ∷ [])) ≡ 12) ×
    (input_number (1 ∷ []) ≡ 1) ×
    (input_number (input 1 1 []) ≡ 1) ×
    (input_number (input 1 1 (0 ∷ 0 ∷ 0 ∷ [])) ≡ 1) ×
    (input_number (input 1 1 (0 ∷ 0 ∷ 0 ∷ 0 ∷ [])) ≡ 2) ×
    (input_number (input 1 1 (low_first (129 ∷ 0 ∷ replicate 258 0))) ≡ 2) ×
    (input_number (input 1 1 (low_first (128 ∷ 0 ∷ replicate 256 0))) ≡ 0) ×
    (input_number (input 1 1 (low_first (128 ∷ 512 ∷ []))) ≡ 3) ×
    (input_number (input 1 1 (low_first (128 ∷ 513 ∷ []))) ≡ 2) ×
    (input_number (input 1 1 one ++ (1 ∷ 0 ∷ 2 ∷ 0 ∷ 1 ∷ [])) ≡ 12) ×
    (input_number (input 1 1 one ++ (1 ∷ 0 ∷ 2 ∷ 0 ∷ 1 ∷ 0 ∷ [])) ≡ 12) ×
    (input_number (input 1 1 one ++ (1 ∷ 0 ∷ 2 ∷ 0 ∷ 1 ∷ 0 ∷ 2 ∷ [])) ≡ 12) ×
    (input_number (input 1 1 one ++ (1 ∷ 0 ∷ 2 ∷ 0 ∷ 1 ∷ 0 ∷ 2 ∷ 0 ∷ [])) ≡ 0) ×
    (begun_area (input 3 1 both) (words 72) ≡ words 72) ×
    (begun_area (input 1 3 both) (words 72) ≡ words 72)
unfolding computing
program_sizes = (refl, refl, refl, refl, refl, refl, refl, refl, refl, refl, refl, refl, refl, refl, refl, refl, refl)

-- ==== Refused because of the state

-- ---- a pick checks 21, 25, 23, 24, 31, 22: a run whose start has cs 129 and num 0 (it is over) and in which nothing waits, picked at place 0
-- and repaired from line to line; then the same with an acknowledgement that waits for 2, whose num is 0, picked at place 2

pick_in_order :
    ((pick (two 1 0 (root (pos 129) 0) idle [] []) 2 2 0).answer ≡ Err (numbered 21)) ×  -- run area not well formed
    ((pick (two 1 0 (root (pos 128) 0) idle [] []) 2 2 0).answer ≡ Err (numbered 25)) ×  -- the pick names no link
    ((pick (two 1 0 (root (pos 128) 0) idle [] []) 2 1 0).answer ≡ Err (numbered 23)) ×  -- the run is over
    ((pick (two 1 0 (root (pos 128) 1) idle [] []) 2 1 0).answer ≡ Err (numbered 24)) ×  -- nothing waits on that link
    ((pick (two 1 0 (root (pos 129) 0) idle (Ack (only (pos 0)) ∷ []) []) 1 2 2).answer ≡ Err (numbered 21)) ×
    ((pick (two 1 0 (root (pos 128) 0) idle (Ack (only (pos 0)) ∷ []) []) 1 2 2).answer ≡ Err (numbered 23)) ×
    ((pick (two 1 0 (root (pos 128) 1) idle (Ack (only (pos 0)) ∷ []) []) 1 2 2).answer ≡ Err (numbered 31)) ×  -- a place beyond the messages waiting
    ((pick (two 1 0 (root (pos 128) 1) idle (Ack (only (pos 0)) ∷ []) []) 1 2 1).answer ≡ Err (numbered 22)) ×  -- the step would take num out of its range
    ((pick (two 1 0 (root (pos 128) 1) idle (Suc ∷ []) []) 1 2 1).answer ≡ Ok Suc)
unfolding computing
pick_in_order = (refl, refl, refl, refl, refl, refl, refl, refl, refl)

-- 02, N5: "a place, 1 for the oldest message, and that message is taken out of the middle"; 31 for "a place that is 0 or beyond the messages waiting"
pick_places :
    ((pick three 1 2 0).answer ≡ Err (numbered 31)) ×
    ((pick three 1 2 1).answer ≡ Ok Suc) ×
    ((pick three 1 2 2).answer ≡ Ok Pre) ×
    ((pick three 1 2 3).answer ≡ Ok (Ack (only (pos 5)))) ×
    ((pick three 1 2 4).answer ≡ Err (numbered 31)) ×
    ((pick three 1 2 5).answer ≡ Err (numbered 31)) ×
    ((pick three 1 2 1).run.link 1 2 ≡ Pre ∷ Ack (only (pos 5)) ∷ []) ×
    ((pick three 1 2 2).run.link 1 2 ≡ Suc ∷ Ack (only (pos 5)) ∷ []) ×
    ((pick three 1 2 3).run.link 1 2 ≡ Suc ∷ Pre ∷ []) ×
    ((pick three 1 2 2).run.link 2 1 ≡ Ack (only (pos 0)) ∷ []) ×
    ((pick three 1 2 0).run ≡ three) ×
    ((pick three 1 2 4).run ≡ three)
unfolding computing
pick_places = (refl, refl, refl, refl, refl, refl, refl, refl, refl, refl, refl, refl)

-- the same in words; a refusal "changes no lent byte or word"
pick_in_words :
    (pick_answer [] 2 2 0 ≡ Err (numbered 21)) ×
    (pick_answer (area (two 1 0 (root (pos 129) 0) idle [] [])) 2 2 0 ≡ Err (numbered 21)) ×
    (pick_answer (area (two 1 0 (root (pos 128) 0) idle [] [])) 2 2 0 ≡ Err (numbered 25)) ×
    (pick_answer (area (two 1 0 (root (pos 128) 0) idle [] [])) 2 1 0 ≡ Err (numbered 23)) ×
    (pick_answer (area (two 1 0 (root (pos 128) 1) idle [] [])) 2 1 0 ≡ Err (numbered 24)) ×
    (pick_answer (area (two 1 0 (root (pos 129) 0) idle (Ack (only (pos 0)) ∷ []) [])) 1 2 2 ≡ Err (numbered 21)) ×
    (pick_answer (area (two 1 0 (root (pos 128) 0) idle (Ack (only (pos 0)) ∷ []) [])) 1 2 2 ≡ Err (numbered 23)) ×
    (pick_answer (area (two 1 0 (root (pos 128) 1) idle (Ack (only (pos 0)) ∷ []) [])) 1 2 2 ≡ Err (numbered 31)) ×
    (pick_answer (area (two 1 0 (root (pos 128) 1) idle (Ack (only (pos 0)) ∷ []) [])) 1 2 1 ≡ Err (numbered 22)) ×
    (pick_answer (area (two 1 0 (root (pos 128) 1) idle (Suc ∷ []) [])) 1 2 1 ≡ Ok Suc) ×
    (pick_area (area (two 1 0 (root (pos 129) 0) idle [] [])) 2 2 1 ≡ area (two 1 0 (root (pos 129) 0) idle [] [])) ×
    (pick_area (area (receiving idle (Ack (only (pos 0))))) 1 2 1 ≡ area (receiving idle (Ack (only (pos 0))))) ×
    (pick_area (area (receiving idle Suc)) 1 2 1 ≡ area (two 1 1 (root (pos 0) 1) (plain 1 0 1 (pos 0) 0 1) [] (Ack (counted (pos 1) (pos 1)) ∷ []))) ×
    (pick_area (area three) 1 2 4 ≡ area three) ×
    (pick_area (area three) 1 2 2 ≡ area (two 1 1 (root (pos 0) 3) (plain 1 1 0 (pos 0) 2 1) (Suc ∷ Ack (only (pos 5)) ∷ []) (Ack (only (pos 0)) ∷ [])))
unfolding computing
pick_in_words = (refl, refl, refl, refl, refl, refl, refl, refl, refl, refl, refl, refl, refl, refl, refl)

-- 25 "the pick names no link": "Two processes are neighbours if an arc joins them either way; a process with a loop is its own neighbour"
links :
    ((pick (receiving idle Suc) 1 1 1).answer ≡ Err (numbered 25)) ×
    ((pick (receiving idle Suc) 0 1 1).answer ≡ Err (numbered 25)) ×
    ((pick (receiving idle Suc) 1 3 1).answer ≡ Err (numbered 25)) ×
    ((pick (receiving idle Suc) 2 1 1).answer ≡ Err (numbered 24)) ×
    ((pick (start_run (waits_of (field_of loop)) 1 1) 1 1 1).answer ≡ Ok Suc)
unfolding computing
links = (refl, refl, refl, refl, refl)

-- 22 "the step would take a value out of its range, put a fifth message on a link, or acknowledge to father 0": the last value in, and the
-- first value out
picks_refused_by_22 :
    -- num 0 loses 1
    ((pick (receiving (plain 0 0 0 (pos 0) 1 1) (Ack (only (pos 0)))) 1 2 1).answer ≡ Ok (Ack (only (pos 0)))) ×
    ((pick (receiving (plain 0 0 0 (pos 0) 0 1) (Ack (only (pos 0)))) 1 2 1).answer ≡ Err (numbered 22)) ×
    -- num 256 and 257
    ((pick (receiving (plain 0 0 0 (pos 0) 255 1) Pre) 1 2 1).answer ≡ Ok Pre) ×
    ((pick (receiving (plain 0 0 0 (pos 0) 256 1) Pre) 1 2 1).answer ≡ Err (numbered 22)) ×
    -- cs 128 and 129, −128 and −129
    ((pick (receiving (plain 0 0 0 (pos 127) 2 1) (Ack (only (pos 1)))) 1 2 1).answer ≡ Ok (Ack (only (pos 1)))) ×
    ((pick (receiving (plain 0 0 0 (pos 128) 2 1) (Ack (only (pos 1)))) 1 2 1).answer ≡ Err (numbered 22)) ×
    ((pick (receiving (plain 0 0 0 (minus 127) 2 1) (Ack (only (minus 1)))) 1 2 1).answer ≡ Ok (Ack (only (minus 1)))) ×
    ((pick (receiving (plain 0 0 0 (minus 128) 2 1) (Ack (only (minus 1)))) 1 2 1).answer ≡ Err (numbered 22)) ×
    -- the same where num becomes 0, so that it is the count sent
    ((pick (receiving (plain 0 0 0 (pos 127) 1 1) (Ack (only (pos 1)))) 1 2 1).answer ≡ Ok (Ack (only (pos 1)))) ×
    ((pick (receiving (plain 0 0 0 (pos 128) 1 1) (Ack (only (pos 1)))) 1 2 1).answer ≡ Err (numbered 22)) ×
    ((pick (receiving (plain 0 0 0 (minus 127) 1 1) (Ack (only (minus 1)))) 1 2 1).answer ≡ Ok (Ack (only (minus 1)))) ×
    ((pick (receiving (plain 0 0 0 (minus 128) 1 1) (Ack (only (minus 1)))) 1 2 1).answer ≡ Err (numbered 22)) ×
    -- the start's cs
    ((pick (two 1 0 (root (pos 127) 2) idle [] (Ack (only (pos 1)) ∷ [])) 2 1 1).answer ≡ Ok (Ack (only (pos 1)))) ×
    ((pick (two 1 0 (root (pos 128) 2) idle [] (Ack (only (pos 1)) ∷ [])) 2 1 1).answer ≡ Err (numbered 22)) ×
    -- a fourth and a fifth message on the link from 2 to 1
    ((pick (two 1 0 (root (pos 0) 1) (plain 1 0 1 (pos 0) 1 1) (Suc ∷ []) (replicate 3 Suc)) 1 2 1).answer ≡ Ok Suc) ×
    ((pick (two 1 0 (root (pos 0) 1) (plain 1 0 1 (pos 0) 1 1) (Suc ∷ []) (replicate 4 Suc)) 1 2 1).answer ≡ Err (numbered 22)) ×
    -- father 1 and father 0
    ((pick (receiving (plain 1 0 1 (pos 0) 1 1) (Ack (only (pos 0)))) 1 2 1).answer ≡ Ok (Ack (only (pos 0)))) ×
    ((pick (receiving (plain 1 0 1 (pos 0) 1 0) (Ack (only (pos 0)))) 1 2 1).answer ≡ Err (numbered 22)) ×
    -- the 2,048th and the 2,049th delivery
    ((pick (two 1 2047 (root (pos 0) 1) idle (Suc ∷ []) []) 1 2 1).answer ≡ Ok Suc) ×
    ((pick (two 1 2048 (root (pos 0) 1) idle (Suc ∷ []) []) 1 2 1).answer ≡ Err (numbered 22))
unfolding computing
picks_refused_by_22 = (refl, refl, refl, refl, refl, refl, refl, refl, refl, refl, refl, refl, refl, refl, refl, refl, refl, refl, refl, refl)

-- ---- "Running on checks 21 first, then over, then spent, then 24, 22"; "k = 0 gives over if the run is over, else spent"

running_in_order :
    ((run_on 0 (two 1 0 (root (pos 129) 0) idle [] [])).answer ≡ halted 21 0) ×
    ((run_on 0 (two 1 0 (root (pos 128) 0) idle [] [])).answer ≡ Ok (Ran.Over 0)) ×
    ((run_on 5 (two 1 0 (root (pos 128) 0) idle [] [])).answer ≡ Ok (Ran.Over 0)) ×
    ((run_on 0 (two 1 0 (root (pos 128) 1) idle [] [])).answer ≡ Ok (Ran.Spent 0)) ×
    ((run_on 1 (two 1 0 (root (pos 128) 1) idle [] [])).answer ≡ halted 24 0) ×
    ((run_on 5 (two 1 0 (root (pos 129) 0) idle (Ack (only (pos 0)) ∷ []) [])).answer ≡ halted 21 0) ×
    ((run_on 5 (two 1 0 (root (pos 128) 0) idle (Ack (only (pos 0)) ∷ []) [])).answer ≡ Ok (Ran.Over 0)) ×
    ((run_on 0 (two 1 0 (root (pos 128) 1) idle (Ack (only (pos 0)) ∷ []) [])).answer ≡ Ok (Ran.Spent 0)) ×
    ((run_on 5 (two 1 0 (root (pos 128) 1) idle (Ack (only (pos 0)) ∷ []) [])).answer ≡ halted 22 0) ×
    ((run_on 1 (receiving idle Suc)).answer ≡ Ok (Ran.Spent 1)) ×
    ((run_on 2 (receiving idle Suc)).answer ≡ Ok (Ran.Over 2)) ×
    ((run_on 2048 (receiving idle Suc)).answer ≡ Ok (Ran.Over 2))
unfolding computing
running_in_order = (refl, refl, refl, refl, refl, refl, refl, refl, refl, refl, refl, refl)

-- "running on that meets 24 or 22 midway keeps its deliveries and gives their number"
running_refused_midway :
    ((run_on 9 (two 1 0 (root (pos 0) 2) idle (Suc ∷ []) [])).answer ≡ halted 24 2) ×
    ((run_on 9 (two 1 0 (root (pos 0) 2) idle (Suc ∷ Ack (only (pos 0)) ∷ []) [])).answer ≡ halted 22 2) ×
    ((run_on 9 (two 1 2047 (root (pos 0) 1) idle (Suc ∷ []) [])).answer ≡ halted 22 1) ×
    (run_on_area 9 (area (two 1 0 (root (pos 0) 2) idle (Suc ∷ Ack (only (pos 0)) ∷ []) []))
    ≡ area (two 1 2 (root_with (pos 1) (pos 1) 1) (plain 1 0 1 (pos 0) 0 1) (Ack (only (pos 0)) ∷ []) []))
unfolding computing
running_refused_midway = (refl, refl, refl, refl)

-- the same in words
running_in_words :
    (run_on_answer 5 [] ≡ halted 21 0) ×
    (run_on_answer 0 (area (two 1 0 (root (pos 129) 0) idle [] [])) ≡ halted 21 0) ×
    (run_on_answer 0 (area (two 1 0 (root (pos 128) 0) idle [] [])) ≡ Ok (Ran.Over 0)) ×
    (run_on_answer 0 (area (two 1 0 (root (pos 128) 1) idle [] [])) ≡ Ok (Ran.Spent 0)) ×
    (run_on_answer 1 (area (two 1 0 (root (pos 128) 1) idle [] [])) ≡ halted 24 0) ×
    (run_on_answer 9 (area (two 1 0 (root (pos 0) 2) idle (Suc ∷ Ack (only (pos 0)) ∷ []) [])) ≡ halted 22 2) ×
    (run_on_area 5 (area (two 1 0 (root (pos 129) 1) idle (Suc ∷ []) [])) ≡ area (two 1 0 (root (pos 129) 1) idle (Suc ∷ []) []))
unfolding computing
running_in_words = (refl, refl, refl, refl, refl, refl, refl)

-- 02, N11: "The fixed order becomes lowest receiver first and then lowest sender." In everywhere a message waits on each link of 1-2, 1-3: the first
-- to go is neither the lowest sender's, from 1 to 2, nor the higher sender's to 1, from 3, nor one to a higher receiver
running_order :
    (loads everywhere ≡ 1 ∷ 1 ∷ 1 ∷ 1 ∷ []) ×
    (loads (run_on 1 everywhere).run ≡ 0 ∷ 1 ∷ 1 ∷ 1 ∷ []) ×  -- from 2 to 1
    (loads (run_on 2 everywhere).run ≡ 0 ∷ 0 ∷ 1 ∷ 1 ∷ []) ×  -- from 3 to 1
    (loads (run_on 3 everywhere).run ≡ 0 ∷ 0 ∷ 0 ∷ 1 ∷ []) ×  -- from 1 to 2
    (loads (run_on 4 everywhere).run ≡ 0 ∷ 0 ∷ 0 ∷ 0 ∷ []) ×  -- from 1 to 3
    -- from the start in 1-2, 1-3: the probe to 2, what 2 sends to 1, and only then the probe to 3
    (loads (start_run (waits_of (field_of fork)) 1 1) ≡ 0 ∷ 0 ∷ 1 ∷ 1 ∷ []) ×
    (loads (run_on 1 (start_run (waits_of (field_of fork)) 1 1)).run ≡ 1 ∷ 0 ∷ 0 ∷ 1 ∷ []) ×
    (loads (run_on 2 (start_run (waits_of (field_of fork)) 1 1)).run ≡ 0 ∷ 0 ∷ 0 ∷ 1 ∷ []) ×
    (loads (run_on 3 (start_run (waits_of (field_of fork)) 1 1)).run ≡ 0 ∷ 1 ∷ 0 ∷ 0 ∷ [])
unfolding computing
running_order = (refl, refl, refl, refl, refl, refl, refl, refl, refl)

-- ---- 02, N13: "It refuses seed 0 with 37, after 21", and before over and spent; with any other seed as running on: the deliveries, and the seed

shuffled_in_order :
    ((run_shuffled 0 0 (two 1 0 (root (pos 129) 0) idle [] [])).answer ≡ halted 21 0) ×
    ((run_shuffled 5 0 (two 1 0 (root (pos 129) 1) idle (Suc ∷ []) [])).answer ≡ halted 21 0) ×
    ((run_shuffled 0 0 (two 1 0 (root (pos 128) 0) idle [] [])).answer ≡ halted 37 0) ×  -- the run is over
    ((run_shuffled 5 0 (two 1 0 (root (pos 128) 0) idle [] [])).answer ≡ halted 37 0) ×
    ((run_shuffled 0 0 (two 1 0 (root (pos 128) 1) idle [] [])).answer ≡ halted 37 0) ×  -- none is to be made
    ((run_shuffled 5 0 (two 1 0 (root (pos 128) 1) idle [] [])).answer ≡ halted 37 0) ×  -- nothing waits
    ((run_shuffled 5 0 (two 1 0 (root (pos 128) 1) idle (Ack (only (pos 0)) ∷ []) [])).answer ≡ halted 37 0) ×
    ((run_shuffled 5 0 (receiving idle Suc)).answer ≡ halted 37 0) ×
    ((run_shuffled 5 0 (receiving idle Suc)).run ≡ receiving idle Suc) ×
    ((run_shuffled 0 1 (two 1 0 (root (pos 129) 0) idle [] [])).answer ≡ halted 21 0) ×
    ((run_shuffled 0 1 (two 1 0 (root (pos 128) 0) idle [] [])).answer ≡ Ok (Ran.Over 0)) ×
    ((run_shuffled 5 1 (two 1 0 (root (pos 128) 0) idle (Ack (only (pos 0)) ∷ []) [])).answer ≡ Ok (Ran.Over 0)) ×
    ((run_shuffled 0 1 (two 1 0 (root (pos 128) 1) idle [] [])).answer ≡ Ok (Ran.Spent 0)) ×
    ((run_shuffled 1 1 (two 1 0 (root (pos 128) 1) idle [] [])).answer ≡ halted 24 0) ×
    ((run_shuffled 5 1 (two 1 0 (root (pos 128) 1) idle (Ack (only (pos 0)) ∷ []) [])).answer ≡ halted 22 0) ×
    ((run_shuffled 1 1 (receiving idle Suc)).answer ≡ Ok (Ran.Spent 1)) ×
    ((run_shuffled 2 1 (receiving idle Suc)).answer ≡ Ok (Ran.Over 2)) ×
    ((run_shuffled 2048 4294967295 (receiving idle Suc)).answer ≡ Ok (Ran.Over 2))
unfolding computing
shuffled_in_order = (refl, refl, refl, refl, refl, refl, refl, refl, refl, refl, refl, refl, refl, refl, refl, refl, refl, refl)

-- 24 and 22 midway. With 22 two links have a message before the second delivery, the lower one from 2 to 1: from seed 1 the second state is odd
-- and the other goes, from seed 2463534242 it is even
shuffled_refused_midway :
    ((run_shuffled 9 1 (two 1 0 (root (pos 0) 2) idle (Suc ∷ []) [])).answer ≡ halted 24 2) ×
    ((run_shuffled 9 1 (two 1 0 (root (pos 0) 2) idle (Suc ∷ Ack (only (pos 0)) ∷ []) [])).answer ≡ halted 22 1) ×
    ((run_shuffled 9 2463534242 (two 1 0 (root (pos 0) 2) idle (Suc ∷ Ack (only (pos 0)) ∷ []) [])).answer ≡ halted 22 2) ×
    ((run_shuffled 9 1 (two 1 2047 (root (pos 0) 1) idle (Suc ∷ []) [])).answer ≡ halted 22 1) ×
    (shuffled_area 9 1 (area (two 1 0 (root (pos 0) 2) idle (Suc ∷ Ack (only (pos 0)) ∷ []) []))
    ≡ area (two 1 1 (root (pos 0) 2) (plain 1 0 1 (pos 0) 0 1) (Ack (only (pos 0)) ∷ []) (Ack (counted (pos 1) (pos 1)) ∷ [])))
unfolding computing
shuffled_refused_midway = (refl, refl, refl, refl, refl)

-- the same in words: with 21 and with 37 every word is kept
shuffled_in_words :
    (shuffled_answer 5 0 [] ≡ halted 21 0) ×
    (shuffled_answer 0 0 (area (two 1 0 (root (pos 129) 0) idle [] [])) ≡ halted 21 0) ×
    (shuffled_answer 0 0 (area (two 1 0 (root (pos 128) 0) idle [] [])) ≡ halted 37 0) ×
    (shuffled_answer 0 0 (area (two 1 0 (root (pos 128) 1) idle [] [])) ≡ halted 37 0) ×
    (shuffled_answer 0 1 (area (two 1 0 (root (pos 128) 0) idle [] [])) ≡ Ok (Ran.Over 0)) ×
    (shuffled_answer 0 1 (area (two 1 0 (root (pos 128) 1) idle [] [])) ≡ Ok (Ran.Spent 0)) ×
    (shuffled_answer 1 1 (area (two 1 0 (root (pos 128) 1) idle [] [])) ≡ halted 24 0) ×
    (shuffled_answer 9 1 (area (two 1 0 (root (pos 0) 2) idle (Suc ∷ Ack (only (pos 0)) ∷ []) [])) ≡ halted 22 1) ×
    (shuffled_area 5 1 (area (two 1 0 (root (pos 129) 1) idle (Suc ∷ []) [])) ≡ area (two 1 0 (root (pos 129) 1) idle (Suc ∷ []) [])) ×
    (shuffled_area 5 0 (area (receiving idle Suc)) ≡ area (receiving idle Suc)) ×
    (shuffled_area 1 1 (area (receiving idle Suc)) ≡ pick_area (area (receiving idle Suc)) 1 2 1)
unfolding computing
shuffled_in_words = (refl, refl, refl, refl, refl, refl, refl, refl, refl, refl, refl)

-- "The state modulo the number of links with a message, counted from 0 in N11's order, picks the link": in everywhere there are four; none if
-- there is no link
drawn_links :
    (links_of everywhere ≡ (2, 1) ∷ (3, 1) ∷ (1, 2) ∷ (1, 3) ∷ []) ×
    (drawn 0 everywhere ≡ pair 2 1) ×
    (drawn 1 everywhere ≡ pair 3 1) ×
    (drawn 2 everywhere ≡ pair 1 2) ×
    (drawn 3 everywhere ≡ pair 1 3) ×
    (drawn 4 everywhere ≡ pair 2 1) ×
    (drawn 4294967295 everywhere ≡ pair 1 3) ×
    (drawn 5 (receiving idle Suc) ≡ pair 1 2) ×
    (drawn 5 (two 1 0 (root (pos 0) 1) idle [] []) ≡ nobody)
unfolding computing
drawn_links = (refl, refl, refl, refl, refl, refl, refl, refl, refl)

-- "before each delivery the state is xored ..": the first states from seed 1 are 270369, 67634689 and 2647435461, from seed 2463534242 they are
-- 723471715, 2497366906 and 2064144800; of the four links of everywhere, then of three, then of two they pick
shuffled_order_is :
    (drawn 270369 everywhere ≡ pair 3 1) ×  -- 1 of 4
    (loads (run_shuffled 1 1 everywhere).run ≡ 1 ∷ 0 ∷ 1 ∷ 1 ∷ []) ×
    (drawn 67634689 (run_shuffled 1 1 everywhere).run ≡ pair 1 2) ×  -- 1 of 3
    (loads (run_shuffled 2 1 everywhere).run ≡ 1 ∷ 0 ∷ 0 ∷ 1 ∷ []) ×
    (drawn 2647435461 (run_shuffled 2 1 everywhere).run ≡ pair 1 3) ×  -- 1 of 2
    (loads (run_shuffled 3 1 everywhere).run ≡ 1 ∷ 0 ∷ 0 ∷ 0 ∷ []) ×
    (loads (run_shuffled 4 1 everywhere).run ≡ 0 ∷ 0 ∷ 0 ∷ 0 ∷ []) ×
    (drawn 723471715 everywhere ≡ pair 1 3) ×  -- 3 of 4
    (loads (run_shuffled 1 2463534242 everywhere).run ≡ 1 ∷ 1 ∷ 1 ∷ 0 ∷ []) ×
    (drawn 2497366906 (run_shuffled 1 2463534242 everywhere).run ≡ pair 3 1) ×  -- 1 of 3
    (loads (run_shuffled 2 2463534242 everywhere).run ≡ 1 ∷ 0 ∷ 1 ∷ 0 ∷ []) ×
    (drawn 2064144800 (run_shuffled 2 2463534242 everywhere).run ≡ pair 2 1) ×  -- 0 of 2
    (loads (run_shuffled 3 2463534242 everywhere).run ≡ 0 ∷ 0 ∷ 1 ∷ 0 ∷ []) ×
    ((run_shuffled 9 1 everywhere).answer ≡ halted 24 4)
unfolding computing
shuffled_order_is = (refl, refl, refl, refl, refl, refl, refl, refl, refl, refl, refl, refl, refl, refl)

-- ".. whose oldest message goes. Such a run ends as any other": the rows of marks and escape_lowest, with a seed
shuffled_ends :
    ((run_shuffled 1 7 three).run.link 1 2 ≡ Pre ∷ Ack (only (pos 5)) ∷ []) ×
    ((run_shuffled 4 1 (start_run (waits_of (field_of fork)) 1 1)).answer ≡ Ok (Ran.Over 4)) ×
    ((run_shuffled 3 1 (start_run (waits_of (field_of fork)) 1 1)).answer ≡ Ok (Ran.Spent 3)) ×
    (report (run_shuffled 8 1 (start_run (waits_of (field_of fork)) 1 1)).run ≡ told 4 Free (pos 2) 2 Held) ×
    (report (run_shuffled 8 2463534242 (start_run (waits_of (field_of beside)) 1 1)).run ≡ told 6 Free (pos 2) 2 Returned) ×
    (report (run_shuffled 10 1 (start_run (waits_of (field_of beside)) 2 1)).run ≡ told 10 Knot (pos 0) 0 Returned)
unfolding computing
shuffled_ends = (refl, refl, refl, refl, refl, refl)

-- ---- "The report checks 21, 26": "over count; verdict knot if cs of s is 0, else none; outside = cs of s; escape .."; "The report marks
-- returned if the start's second sum is 0, else held" (02, N3)

report_in_order :
    (report (two 1 0 (root (pos 129) 1) idle [] []) ≡ Err (numbered 21)) ×
    (report (two 1 0 (root (pos 0) 1) idle [] []) ≡ Err (numbered 26)) ×
    (report (two 1 2 (root (pos 0) 0) idle [] []) ≡ told 2 Knot (pos 0) 0 Returned) ×
    (report (two 1 2 (root_with (pos 1) (pos 1) 0) (plain 1 0 1 (pos 0) 0 1) [] []) ≡ told 2 Free (pos 1) 2 Held) ×
    (report (two 1 2 (root (minus 1) 0) idle [] []) ≡ told 2 Free (minus 1) 0 Returned) ×
    (report (two 1 2 (root_with (pos 0) (minus 1) 0) idle [] []) ≡ told 2 Knot (pos 0) 0 Held) ×
    (report_answer [] ≡ Err (numbered 21)) ×
    (report_answer (area (two 1 0 (root (pos 129) 1) idle [] [])) ≡ Err (numbered 21)) ×
    (report_answer (area (two 1 0 (root (pos 0) 1) idle [] [])) ≡ Err (numbered 26)) ×
    (report_answer (area (two 1 2 (root (pos 0) 0) idle [] [])) ≡ told 2 Knot (pos 0) 0 Returned) ×
    (report_answer (area (two 1 2 (root_with (pos 1) (pos 1) 0) (plain 1 0 1 (pos 0) 0 1) [] [])) ≡ told 2 Free (pos 1) 2 Held)
unfolding computing
report_in_order = (refl, refl, refl, refl, refl, refl, refl, refl, refl, refl, refl)

-- 02, N4: "Verdicts are judged by the edition named at start": "Under 2 the rows "none" and "2-1" of 01 give verdict none with outside 0; the row
-- "1-1" stays a knot." Row "2-1" is here 1-2 from process 2
edition_verdicts :
    (report (start_run (waits_of (field_of alone)) 1 1) ≡ told 0 Knot (pos 0) 0 Held) ×
    (report (start_run (waits_of (field_of alone)) 1 2) ≡ told 0 Free (pos 0) 0 Held) ×
    (report (run_on 8 (start_run (waits_of (field_of one)) 2 1)).run ≡ told 2 Knot (pos 0) 0 Held) ×
    (report (run_on 8 (start_run (waits_of (field_of one)) 2 2)).run ≡ told 2 Free (pos 0) 0 Held) ×
    (report (run_on 8 (start_run (waits_of (field_of loop)) 1 1)).run ≡ told 4 Knot (pos 0) 0 Returned) ×
    (report (run_on 8 (start_run (waits_of (field_of loop)) 1 2)).run ≡ told 4 Knot (pos 0) 0 Returned) ×
    (report (run_on 8 (start_run (waits_of (field_of fork)) 1 2)).run ≡ told 4 Free (pos 2) 2 Held) ×
    (report_answer (set (area (two 2 2 idle (root (pos 0) 0) [] [])) 3 (pos 2)) ≡ told 2 Free (pos 0) 0 Returned) ×
    (report_answer (set (area (two 1 2 (root (pos 0) 0) idle [] [])) 3 (pos 2)) ≡ told 2 Knot (pos 0) 0 Returned) ×
    (report_answer (set (area (two 1 2 (root (pos 0) 0) idle [] [])) 3 (pos 3)) ≡ Err (numbered 21))
unfolding computing
edition_verdicts = (refl, refl, refl, refl, refl, refl, refl, refl, refl, refl)

-- 02, N3: "a payment is returned exactly if every process reachable from the start, itself included, waits for somebody": 1-2, 2-3, 3-2 from 1 is
-- no knot and returned; the start has the number of those that wait for nobody, of 1-2, 1-3 it is 2
marks :
    (report (run_on 8 (start_run (waits_of (field_of beside)) 1 1)).run ≡ told 6 Free (pos 2) 2 Returned) ×
    (report (run_on 10 (start_run (waits_of (field_of beside)) 2 1)).run ≡ told 10 Knot (pos 0) 0 Returned) ×
    (all_wait (waits_of (field_of beside)) 1 ≡ true) × (sinks (waits_of (field_of beside)) 1 ≡ 0) ×
    (all_wait (waits_of (field_of fork)) 1 ≡ false) × (sinks (waits_of (field_of fork)) 1 ≡ 2) × (sinks (waits_of (field_of fork)) 3 ≡ 1) ×
    ((run_on 8 (start_run (waits_of (field_of fork)) 1 1)).run.process 1 ≡ root_with (pos 2) (pos 2) 0) ×
    ((start_run (waits_of (field_of fork)) 3 1).process 3 ≡ root_with (pos 0) (pos 1) 1)
unfolding computing
marks = (refl, refl, refl, refl, refl, refl, refl, refl, refl)

-- 02, N1: "escape is the lowest-numbered process with subordinate 1, and 0 only where there is none"
escape_lowest :
    (escape_of (two 1 2 (plain 1 0 1 (pos 0) 0 0) (plain 1 0 1 (pos 0) 0 1) [] []) ≡ 1) ×  -- the first of two, which is the start
    (escape_of (two 2 2 (plain 0 0 1 (pos 0) 0 0) (plain 1 1 0 (pos 0) 0 1) [] []) ≡ 1) ×  -- subordinate alone counts
    (escape_of (two 1 2 (root (pos 0) 0) (plain 0 0 1 (pos 0) 0 1) [] []) ≡ 2) ×  -- the start is succeeding, and not subordinate
    (escape_of (two 1 2 (root (pos 0) 0) (plain 1 1 0 (pos 0) 0 1) [] []) ≡ 0) ×
    (lowest_outsider (waits_of (field_of fork)) 1 ≡ 2) ×  -- 1 waits for 2 and for 3
    (lowest_outsider (waits_of (field_of fork)) 2 ≡ 0) ×
    (report (run_on 8 (start_run (waits_of (field_of fork)) 1 1)).run ≡ told 4 Free (pos 2) 2 Held)
unfolding computing
escape_lowest = (refl, refl, refl, refl, refl, refl, refl)

-- ---- "reading one process's record checks 21, 25"

record_in_order :
    (read_record (two 1 0 (root (pos 129) 1) idle [] []) 0 ≡ Err (numbered 21)) ×
    (read_record (two 1 0 (root (pos 128) 1) idle [] []) 0 ≡ Err (numbered 25)) ×
    (read_record (two 1 0 (root (pos 128) 1) idle [] []) 3 ≡ Err (numbered 25)) ×
    (read_record (two 1 0 (root (pos 128) 1) idle [] []) 1 ≡ Ok (plain 1 1 0 (pos 128) 1 0)) ×
    (read_record (two 1 0 (root (pos 128) 1) idle [] []) 2 ≡ Ok (plain 0 0 0 (pos 0) 0 0)) ×
    (read_answer [] 0 ≡ Err (numbered 21)) ×
    (read_answer (area (two 1 0 (root (pos 129) 1) idle [] [])) 0 ≡ Err (numbered 21)) ×
    (read_answer (area (two 1 0 (root (pos 128) 1) idle [] [])) 0 ≡ Err (numbered 25)) ×
    (read_answer (area (two 1 0 (root (pos 128) 1) idle [] [])) 3 ≡ Err (numbered 25)) ×
    (read_answer (area (two 1 0 (root (pos 128) 1) idle [] [])) 1 ≡ Ok (plain 1 1 0 (pos 128) 1 0))
unfolding computing
record_in_order = (refl, refl, refl, refl, refl, refl, refl, refl, refl, refl)

-- ---- "One process's step checks 21, 25, 22": message, out-degree, in-degree, sender, record

step_in_order :
    (stepped (Ack (only (pos 0))) 0 0 0 (plain 0 0 0 (pos 129) 0 0) ≡ Err (numbered 21)) ×
    (stepped (Ack (only (pos 0))) 0 0 0 (plain 0 0 0 (pos 128) 0 0) ≡ Err (numbered 25)) ×
    (stepped (Ack (only (pos 0))) 0 0 129 (plain 0 0 0 (pos 128) 0 0) ≡ Err (numbered 25)) ×
    (stepped (Ack (only (pos 0))) 0 0 128 (plain 0 0 0 (pos 128) 0 0) ≡ Err (numbered 22)) ×
    (stepped (Ack (only (pos 0))) 0 0 1 (plain 0 0 0 (pos 128) 0 0) ≡ Err (numbered 22)) ×
    (stepped (Ack (only (pos 0))) 0 0 1 (plain 0 0 0 (pos 128) 1 3) ≡ taken (plain 0 0 0 (pos 0) 0 3) Probes.Nothing (acknowledgement 3 (only (pos 128))))
unfolding computing
step_in_order = (refl, refl, refl, refl, refl, refl)

-- 21 "record or count out of range, father over 128 or a degree over 128": with sender 0 the last value in meets 25, the first value out 21
step_ranges :
    (stepped Suc 0 0 0 (plain 1 0 0 (pos 0) 0 0) ≡ Err (numbered 25)) ×
    (stepped Suc 0 0 0 (plain 2 0 0 (pos 0) 0 0) ≡ Err (numbered 21)) ×
    (stepped Suc 0 0 0 (plain 0 1 0 (pos 0) 0 0) ≡ Err (numbered 25)) ×
    (stepped Suc 0 0 0 (plain 0 2 0 (pos 0) 0 0) ≡ Err (numbered 21)) ×
    (stepped Suc 0 0 0 (plain 0 0 1 (pos 0) 0 0) ≡ Err (numbered 25)) ×
    (stepped Suc 0 0 0 (plain 0 0 2 (pos 0) 0 0) ≡ Err (numbered 21)) ×
    (stepped Suc 0 0 0 (plain 0 0 0 (pos 128) 0 0) ≡ Err (numbered 25)) ×
    (stepped Suc 0 0 0 (plain 0 0 0 (pos 129) 0 0) ≡ Err (numbered 21)) ×
    (stepped Suc 0 0 0 (plain 0 0 0 (minus 128) 0 0) ≡ Err (numbered 25)) ×
    (stepped Suc 0 0 0 (plain 0 0 0 (minus 129) 0 0) ≡ Err (numbered 21)) ×
    (stepped Suc 0 0 0 (plain 0 0 0 (pos 0) 256 0) ≡ Err (numbered 25)) ×
    (stepped Suc 0 0 0 (plain 0 0 0 (pos 0) 257 0) ≡ Err (numbered 21)) ×
    (stepped Suc 0 0 0 (plain 0 0 0 (pos 0) 0 128) ≡ Err (numbered 25)) ×
    (stepped Suc 0 0 0 (plain 0 0 0 (pos 0) 0 129) ≡ Err (numbered 21)) ×
    (stepped (Ack (only (pos 128))) 0 0 0 idle ≡ Err (numbered 25)) ×
    (stepped (Ack (only (pos 129))) 0 0 0 idle ≡ Err (numbered 21)) ×
    (stepped (Ack (only (minus 128))) 0 0 0 idle ≡ Err (numbered 25)) ×
    (stepped (Ack (only (minus 129))) 0 0 0 idle ≡ Err (numbered 21)) ×
    (stepped Suc 128 0 0 idle ≡ Err (numbered 25)) ×
    (stepped Suc 129 0 0 idle ≡ Err (numbered 21)) ×
    (stepped Suc 0 128 0 idle ≡ Err (numbered 25)) ×
    (stepped Suc 0 129 0 idle ≡ Err (numbered 21))
unfolding computing
step_ranges = (refl, refl, refl, refl, refl, refl, refl, refl, refl, refl, refl, refl, refl, refl, refl, refl, refl, refl, refl, refl, refl, refl)

-- 22 by each reason that a step has, after the last value in; "A probe kind is named whenever its flag is newly set, also at degree 0"
steps_refused_by_22 :
    (stepped Suc 0 0 1 idle ≡ taken (plain 1 0 1 (pos 0) 0 1) Sucs (acknowledgement 1 (counted (pos 1) (pos 1)))) ×
    (stepped Pre 0 128 128 idle ≡ taken (plain 0 1 0 (pos 0) 128 128) Pres None) ×
    (stepped Suc 1 0 2 (plain 0 0 0 (pos 5) 255 3) ≡ taken (plain 1 0 1 (pos 1) 256 3) Sucs (acknowledgement 2 (only (pos 5)))) ×
    (stepped Suc 1 0 2 (plain 0 0 0 (pos 5) 256 3) ≡ Err (numbered 22)) ×
    (stepped (Ack (only (pos 1))) 0 0 2 (plain 0 0 0 (pos 127) 2 3) ≡ taken (plain 0 0 0 (pos 128) 1 3) Probes.Nothing None) ×
    (stepped (Ack (only (pos 1))) 0 0 2 (plain 0 0 0 (pos 128) 2 3) ≡ Err (numbered 22)) ×
    (stepped (Ack (only (minus 1))) 0 0 2 (plain 0 0 0 (minus 127) 2 3) ≡ taken (plain 0 0 0 (minus 128) 1 3) Probes.Nothing None) ×
    (stepped (Ack (only (minus 1))) 0 0 2 (plain 0 0 0 (minus 128) 2 3) ≡ Err (numbered 22)) ×
    (stepped (Ack (only (pos 1))) 0 0 2 (plain 0 0 0 (pos 127) 1 3) ≡ taken (plain 0 0 0 (pos 0) 0 3) Probes.Nothing (acknowledgement 3 (only (pos 128)))) ×
    (stepped (Ack (only (pos 1))) 0 0 2 (plain 0 0 0 (pos 128) 1 3) ≡ Err (numbered 22)) ×
    (stepped (Ack (only (pos 1))) 0 0 2 (plain 0 0 0 (pos 0) 1 0) ≡ Err (numbered 22)) ×
    (stepped (Ack (only (pos 1))) 0 0 2 (plain 0 0 0 (pos 0) 0 3) ≡ Err (numbered 22))
unfolding computing
steps_refused_by_22 = (refl, refl, refl, refl, refl, refl, refl, refl, refl, refl, refl, refl)

-- 02, N3: "Such a process adds 1 when it first becomes succeeding", after rule 1; "passed on and zeroed with cs"; "it and the second count have cs's
-- range": 21 and 22 cover them
second_numbers :
    (stepped Suc 1 0 1 idle ≡ taken (plain 1 0 1 (pos 1) 1 1) Sucs None) ×  -- a process that waits for somebody
    (stepped Suc 0 0 2 (process_of 0 0 0 (pos 5) 1 3 (pos 7)) ≡ taken (process_of 1 0 1 (pos 1) 1 3 (pos 1)) Sucs (acknowledgement 2 (counted (pos 5) (pos 7)))) ×
    (stepped Suc 0 0 2 (process_of 1 0 1 (pos 5) 1 3 (pos 7)) ≡ taken (process_of 1 0 1 (pos 0) 1 3 (pos 0)) Probes.Nothing (acknowledgement 2 (counted (pos 5) (pos 7)))) ×
    (stepped Pre 0 0 2 (process_of 1 0 1 (pos 1) 0 3 (pos 1)) ≡ taken (plain 1 1 0 (pos 0) 0 2) Pres (acknowledgement 2 (counted (pos 0) (pos 1)))) ×
    (stepped (Ack (counted (pos 1) (pos 2))) 0 0 2 (process_of 1 0 1 (pos 3) 2 3 (pos 4))
    ≡ taken (process_of 1 0 1 (pos 4) 1 3 (pos 6)) Probes.Nothing None) ×
    (start_stepped (Ack (counted (pos 1) (pos 2))) 2 (root_with (pos 3) (pos 4) 1) ≡ taken (root_with (pos 4) (pos 6) 0) Probes.Nothing None) ×
    (start_stepped Pre 2 (root_with (pos 3) (pos 4) 1) ≡ taken (root_with (pos 3) (pos 4) 1) Probes.Nothing (acknowledgement 2 (only (pos 0)))) ×
    (stepped Suc 0 0 0 (process_of 0 0 0 (pos 0) 0 0 (pos 128)) ≡ Err (numbered 25)) ×
    (stepped Suc 0 0 0 (process_of 0 0 0 (pos 0) 0 0 (pos 129)) ≡ Err (numbered 21)) ×
    (stepped Suc 0 0 0 (process_of 0 0 0 (pos 0) 0 0 (minus 128)) ≡ Err (numbered 25)) ×
    (stepped Suc 0 0 0 (process_of 0 0 0 (pos 0) 0 0 (minus 129)) ≡ Err (numbered 21)) ×
    (stepped (Ack (counted (pos 0) (pos 128))) 0 0 0 idle ≡ Err (numbered 25)) ×
    (stepped (Ack (counted (pos 0) (pos 129))) 0 0 0 idle ≡ Err (numbered 21)) ×
    (stepped (Ack (counted (pos 0) (minus 128))) 0 0 0 idle ≡ Err (numbered 25)) ×
    (stepped (Ack (counted (pos 0) (minus 129))) 0 0 0 idle ≡ Err (numbered 21)) ×
    (stepped Suc 0 0 1 (process_of 0 0 0 (pos 0) 0 0 (pos 127)) ≡ taken (plain 1 0 1 (pos 0) 0 1) Sucs (acknowledgement 1 (counted (pos 1) (pos 128)))) ×
    (stepped Suc 0 0 1 (process_of 0 0 0 (pos 0) 0 0 (pos 128)) ≡ Err (numbered 22)) ×
    (stepped (Ack (counted (pos 0) (pos 1))) 0 0 1 (process_of 1 0 1 (pos 0) 2 1 (pos 128)) ≡ Err (numbered 22)) ×
    (stepped (Ack (counted (pos 0) (minus 1))) 0 0 1 (process_of 1 0 1 (pos 0) 2 1 (minus 128)) ≡ Err (numbered 22)) ×
    (start_stepped (Ack (counted (pos 0) (pos 1))) 2 (root_with (pos 0) (pos 128) 1) ≡ Err (numbered 22))
unfolding computing
second_numbers = (refl, refl, refl, refl, refl, refl, refl, refl, refl, refl, refl, refl, refl, refl, refl, refl, refl, refl, refl, refl)

-- the start's step, of which only 22 is asked: "it acknowledges with 0"; "cs gains c, num loses 1"
start_steps :
    (start_stepped Suc 2 (root (pos 0) 1) ≡ taken (root (pos 0) 1) Probes.Nothing (acknowledgement 2 (only (pos 0)))) ×
    (start_stepped (Ack (only (pos 1))) 2 (root (pos 127) 1) ≡ taken (root (pos 128) 0) Probes.Nothing None) ×
    (start_stepped (Ack (only (pos 1))) 2 (root (pos 128) 1) ≡ Err (numbered 22)) ×
    (start_stepped (Ack (only (minus 1))) 2 (root (minus 128) 1) ≡ Err (numbered 22)) ×
    (start_stepped (Ack (only (pos 0))) 2 (root (pos 0) 0) ≡ Err (numbered 22))
unfolding computing
start_steps = (refl, refl, refl, refl, refl)

-- "A host may lend one process record with one message and have it updated by the step"; a refusal changes nothing
lent_records :
    (lent_answer (stepped Suc 0 0 1 idle) ≡ Ok (sending Sucs (acknowledgement 1 (counted (pos 1) (pos 1))))) ×
    (lent_record idle (stepped Suc 0 0 1 idle) ≡ plain 1 0 1 (pos 0) 0 1) ×
    (lent_answer (stepped Suc 0 0 0 (plain 0 0 0 (pos 5) 7 0)) ≡ Err (numbered 25)) ×
    (lent_record (plain 0 0 0 (pos 5) 7 0) (stepped Suc 0 0 0 (plain 0 0 0 (pos 5) 7 0)) ≡ plain 0 0 0 (pos 5) 7 0)
unfolding computing
lent_records = (refl, refl, refl, refl)

-- ---- 21 "run area not well formed": the ranges of "Run and links". Reading process 0 meets 25 where the run is well formed, 21 where it is not

ranges :
    (read_record (two 1 0 (root (pos 0) 1) (plain 1 0 0 (pos 0) 0 0) [] []) 0 ≡ Err (numbered 25)) ×
    (read_record (two 1 0 (root (pos 0) 1) (plain 2 0 0 (pos 0) 0 0) [] []) 0 ≡ Err (numbered 21)) ×
    (read_record (two 1 0 (root (pos 0) 1) (plain 0 1 0 (pos 0) 0 0) [] []) 0 ≡ Err (numbered 25)) ×
    (read_record (two 1 0 (root (pos 0) 1) (plain 0 2 0 (pos 0) 0 0) [] []) 0 ≡ Err (numbered 21)) ×
    (read_record (two 1 0 (root (pos 0) 1) (plain 0 0 1 (pos 0) 0 0) [] []) 0 ≡ Err (numbered 25)) ×
    (read_record (two 1 0 (root (pos 0) 1) (plain 0 0 2 (pos 0) 0 0) [] []) 0 ≡ Err (numbered 21)) ×
    (read_record (two 1 0 (root (pos 0) 1) (plain 0 0 0 (pos 128) 0 0) [] []) 0 ≡ Err (numbered 25)) ×
    (read_record (two 1 0 (root (pos 0) 1) (plain 0 0 0 (pos 129) 0 0) [] []) 0 ≡ Err (numbered 21)) ×
    (read_record (two 1 0 (root (pos 0) 1) (plain 0 0 0 (minus 128) 0 0) [] []) 0 ≡ Err (numbered 25)) ×
    (read_record (two 1 0 (root (pos 0) 1) (plain 0 0 0 (minus 129) 0 0) [] []) 0 ≡ Err (numbered 21)) ×
    (read_record (two 1 0 (root (pos 0) 1) (plain 0 0 0 (pos 0) 256 0) [] []) 0 ≡ Err (numbered 25)) ×
    (read_record (two 1 0 (root (pos 0) 1) (plain 0 0 0 (pos 0) 257 0) [] []) 0 ≡ Err (numbered 21)) ×
    -- "every father is 0 or a neighbour": 1 is a neighbour of 2, 2 is not
    (read_record (two 1 0 (root (pos 0) 1) (plain 0 0 0 (pos 0) 0 1) [] []) 0 ≡ Err (numbered 25)) ×
    (read_record (two 1 0 (root (pos 0) 1) (plain 0 0 0 (pos 0) 0 2) [] []) 0 ≡ Err (numbered 21)) ×
    -- "the start is 1 to N"
    (read_record (two 0 0 (root (pos 0) 1) idle [] []) 0 ≡ Err (numbered 21)) ×
    (read_record (two 2 0 (root (pos 0) 1) idle [] []) 0 ≡ Err (numbered 25)) ×
    (read_record (two 3 0 (root (pos 0) 1) idle [] []) 0 ≡ Err (numbered 21)) ×
    -- "counts accepted deliveries, 0 to 2048"
    (read_record (two 1 2048 (root (pos 0) 1) idle [] []) 0 ≡ Err (numbered 25)) ×
    (read_record (two 1 2049 (root (pos 0) 1) idle [] []) 0 ≡ Err (numbered 21)) ×
    -- "every link holds at most 4 messages of the three kinds with counts in range"
    (read_record (two 1 0 (root (pos 0) 1) idle (replicate 4 Suc) (replicate 4 Pre)) 0 ≡ Err (numbered 25)) ×
    (read_record (two 1 0 (root (pos 0) 1) idle (replicate 5 Suc) []) 0 ≡ Err (numbered 21)) ×
    (read_record (two 1 0 (root (pos 0) 1) idle [] (replicate 5 Pre)) 0 ≡ Err (numbered 21))
unfolding computing
ranges = (refl, refl, refl, refl, refl, refl, refl, refl, refl, refl, refl, refl, refl, refl, refl, refl, refl, refl, refl, refl, refl, refl)

-- "The count may be negative (−128 to 128)", in a waiting acknowledgement, and the second count too; the second sum of a process (02, N3)
count_ranges :
    (read_record (receiving idle (Ack (only (pos 128)))) 0 ≡ Err (numbered 25)) ×
    (read_record (receiving idle (Ack (only (pos 129)))) 0 ≡ Err (numbered 21)) ×
    (read_record (receiving idle (Ack (only (minus 128)))) 0 ≡ Err (numbered 25)) ×
    (read_record (receiving idle (Ack (only (minus 129)))) 0 ≡ Err (numbered 21)) ×
    (read_record (receiving idle (Ack (counted (pos 0) (pos 128)))) 0 ≡ Err (numbered 25)) ×
    (read_record (receiving idle (Ack (counted (pos 0) (pos 129)))) 0 ≡ Err (numbered 21)) ×
    (read_record (receiving idle (Ack (counted (pos 0) (minus 128)))) 0 ≡ Err (numbered 25)) ×
    (read_record (receiving idle (Ack (counted (pos 0) (minus 129)))) 0 ≡ Err (numbered 21)) ×
    (read_record (receiving (process_of 0 0 0 (pos 0) 0 0 (pos 128)) Suc) 0 ≡ Err (numbered 25)) ×
    (read_record (receiving (process_of 0 0 0 (pos 0) 0 0 (pos 129)) Suc) 0 ≡ Err (numbered 21)) ×
    (read_record (receiving (process_of 0 0 0 (pos 0) 0 0 (minus 128)) Suc) 0 ≡ Err (numbered 25)) ×
    (read_record (receiving (process_of 0 0 0 (pos 0) 0 0 (minus 129)) Suc) 0 ≡ Err (numbered 21))
unfolding computing
count_ranges = (refl, refl, refl, refl, refl, refl, refl, refl, refl, refl, refl, refl)

-- the same in words, of which one is set: the places are those of docs/LAYOUT.md with N 2 and M 1
ranges_in_words :
    (read_answer (take 51 (area (receiving idle Suc))) 0 ≡ Err (numbered 21)) ×
    (read_answer (area (receiving idle Suc)) 0 ≡ Err (numbered 25)) ×
    (read_answer (area (receiving idle Suc) ++ words 2) 0 ≡ Err (numbered 25)) ×
    (read_answer (set (area (receiving idle Suc)) 1 (pos 0)) 0 ≡ Err (numbered 21)) ×  -- the start
    (read_answer (set (area (receiving idle Suc)) 1 (pos 2)) 0 ≡ Err (numbered 25)) ×
    (read_answer (set (area (receiving idle Suc)) 1 (pos 3)) 0 ≡ Err (numbered 21)) ×
    (read_answer (set (area (receiving idle Suc)) 2 (pos 2048)) 0 ≡ Err (numbered 25)) ×  -- accepted deliveries
    (read_answer (set (area (receiving idle Suc)) 2 (pos 2049)) 0 ≡ Err (numbered 21)) ×
    (read_answer (set (area (receiving idle Suc)) 14 (pos 0)) 0 ≡ Err (numbered 21)) ×  -- N
    (read_answer (set (area (receiving idle Suc)) 14 (pos 129)) 0 ≡ Err (numbered 21)) ×
    (read_answer (set (area (receiving idle Suc)) 15 (pos 513)) 0 ≡ Err (numbered 21)) ×  -- M
    (read_answer (set (area (receiving idle Suc)) 20 (pos 3)) 0 ≡ Err (numbered 21)) ×  -- a from over N
    (read_answer (set (area (receiving idle Suc)) 31 (pos 128)) 0 ≡ Err (numbered 25)) ×  -- cs of 2
    (read_answer (set (area (receiving idle Suc)) 31 (pos 129)) 0 ≡ Err (numbered 21)) ×
    (read_answer (set (area (receiving idle Suc)) 31 (minus 128)) 0 ≡ Err (numbered 25)) ×
    (read_answer (set (area (receiving idle Suc)) 31 (minus 129)) 0 ≡ Err (numbered 21)) ×
    (read_answer (set (area (receiving idle Suc)) 32 (pos 256)) 0 ≡ Err (numbered 25)) ×  -- num of 2
    (read_answer (set (area (receiving idle Suc)) 32 (pos 257)) 0 ≡ Err (numbered 21)) ×
    (read_answer (set (area (receiving idle Suc)) 32 (minus 1)) 0 ≡ Err (numbered 21)) ×
    (read_answer (set (area (receiving idle Suc)) 33 (pos 1)) 0 ≡ Err (numbered 25)) ×  -- father of 2
    (read_answer (set (area (receiving idle Suc)) 33 (pos 2)) 0 ≡ Err (numbered 21))
unfolding computing
ranges_in_words = (refl, refl, refl, refl, refl, refl, refl, refl, refl, refl, refl, refl, refl, refl, refl, refl, refl, refl, refl, refl, refl)

-- 02, N3: the second sum of 2 in words; which check an area is of, where 1 was the knot check before second sums
seconds_in_words :
    (read_answer (set (area (receiving idle Suc)) 34 (pos 128)) 0 ≡ Err (numbered 25)) ×
    (read_answer (set (area (receiving idle Suc)) 34 (pos 129)) 0 ≡ Err (numbered 21)) ×
    (read_answer (set (area (receiving idle Suc)) 34 (minus 128)) 0 ≡ Err (numbered 25)) ×
    (read_answer (set (area (receiving idle Suc)) 34 (minus 129)) 0 ≡ Err (numbered 21)) ×
    (read_answer (set (area (receiving idle Suc)) 35 (pos 1)) 0 ≡ Err (numbered 21)) ×  -- a free word
    (read_answer (set (area (receiving idle Suc)) 34 (minus 5)) 2 ≡ Ok (process_of 0 0 0 (pos 0) 0 0 (minus 5))) ×
    (read_answer (set (area (receiving idle Suc)) 0 (pos 1)) 0 ≡ Err (numbered 21)) ×
    (read_answer (set (area (receiving idle Suc)) 0 (pos 2)) 0 ≡ Err (numbered 25)) ×
    (read_answer (set (area (receiving idle Suc)) 0 (pos 3)) 0 ≡ Err (numbered 21))
unfolding computing
seconds_in_words = (refl, refl, refl, refl, refl, refl, refl, refl, refl)

-- "the edition, 1 or 2": "In an area it gives 21" (02, N4); its word is the fourth
edition_ranges :
    (read_record (under 0 (receiving idle Suc)) 0 ≡ Err (numbered 21)) ×
    (read_record (under 1 (receiving idle Suc)) 0 ≡ Err (numbered 25)) ×
    (read_record (under 2 (receiving idle Suc)) 0 ≡ Err (numbered 25)) ×
    (read_record (under 3 (receiving idle Suc)) 0 ≡ Err (numbered 21)) ×
    (read_answer (set (area (receiving idle Suc)) 3 (pos 0)) 0 ≡ Err (numbered 21)) ×
    (read_answer (set (area (receiving idle Suc)) 3 (pos 2)) 0 ≡ Err (numbered 25)) ×
    (read_answer (set (area (receiving idle Suc)) 3 (pos 3)) 0 ≡ Err (numbered 21)) ×
    (read_answer (set (area (receiving idle Suc)) 3 (minus 1)) 0 ≡ Err (numbered 21)) ×
    (read_answer (set (area (receiving idle Suc)) 3 (pos 65535)) 0 ≡ Err (numbered 21))
unfolding computing
edition_ranges = (refl, refl, refl, refl, refl, refl, refl, refl, refl)

-- a message in one word: 1 a suc probe, 2 a pre probe, 256 + c + 512 (256 + d) an acknowledgement with count c and second count d (02, N3)
messages_in_words :
    ((run_in (set (area (receiving idle Suc)) 36 (pos 1))).link 1 2 ≡ Suc ∷ []) ×
    ((run_in (set (area (receiving idle Suc)) 36 (pos 2))).link 1 2 ≡ Pre ∷ []) ×
    ((run_in (set (area (receiving idle Suc)) 36 (pos 131327))).link 1 2 ≡ Ack (only (minus 1)) ∷ []) ×
    ((run_in (set (area (receiving idle Suc)) 36 (pos 130818))).link 1 2 ≡ Ack (counted (pos 2) (minus 1)) ∷ []) ×
    (area (receiving idle (Ack (counted (pos 2) (minus 1)))) ≡ set (area (receiving idle Suc)) 36 (pos 130818)) ×
    (read_answer (set (area (receiving idle Suc)) 36 (pos 2)) 0 ≡ Err (numbered 25)) ×
    (read_answer (set (area (receiving idle Suc)) 36 (pos 3)) 0 ≡ Err (numbered 21)) ×
    (read_answer (set (area (receiving idle Suc)) 36 (pos 256)) 0 ≡ Err (numbered 21)) ×  -- an acknowledgement as it was without second counts
    (read_answer (set (area (receiving idle Suc)) 36 (pos 65664)) 0 ≡ Err (numbered 25)) ×  -- the least of both counts: 128 + 512 · 128
    (read_answer (set (area (receiving idle Suc)) 36 (pos 65663)) 0 ≡ Err (numbered 21)) ×
    (read_answer (set (area (receiving idle Suc)) 36 (pos 65152)) 0 ≡ Err (numbered 21)) ×
    (read_answer (set (area (receiving idle Suc)) 36 (pos 196992)) 0 ≡ Err (numbered 25)) ×  -- the largest: 384 + 512 · 384
    (read_answer (set (area (receiving idle Suc)) 36 (pos 196993)) 0 ≡ Err (numbered 21)) ×
    (read_answer (set (area (receiving idle Suc)) 36 (pos 197504)) 0 ≡ Err (numbered 21)) ×
    (read_answer (set (area (receiving idle Suc)) 36 (minus 131072)) 0 ≡ Err (numbered 21))
unfolding computing
messages_in_words = (refl, refl, refl, refl, refl, refl, refl, refl, refl, refl, refl, refl, refl, refl, refl)

-- ==== "A refusal returns its number, zeros elsewhere"

table_zeros : (e : Refusal) →
    (number_of (Err e) ≡ number e) × (n_found (Err e) ≡ 0) × (m_found (Err e) ≡ 0) ×
    (writing_number (Err e) ≡ number e) × (written_length (Err e) ≡ 0) ×
    (opened_number (Err e) ≡ number e) × (opened_arc (Err e) ≡ 0) ×
    (started_number (Err e) ≡ number e)
unfolding computing
table_zeros e = (refl, refl, refl, refl, refl, refl, refl, refl)

-- a refused pick makes no delivery; running on gives "their number" (with 21 it is 0: running_in_order)
call_zeros : (e : Refusal) (h : Halted) →
    (delivery_number (Err e) ≡ number e) × (delivery_made (Err e) ≡ 0) ×
    (delivery_kind (Err e) ≡ 0) × (delivery_counts (Err e) ≡ only (pos 0)) ×
    (ran_number (Err h) ≡ number h.refusal) × (ran_over (Err h) ≡ 0) × (ran_made (Err h) ≡ h.made) ×
    (reading_number (Err e) ≡ number e) × (reading_process (Err e) ≡ plain 0 0 0 (pos 0) 0 0)
unfolding computing
call_zeros e h = (refl, refl, refl, refl, refl, refl, refl, refl, refl)

report_zeros : (e : Refusal) →
    (report_number (Err e) ≡ number e) × (report_count (Err e) ≡ 0) × (report_knot (Err e) ≡ 0) ×
    (report_outside (Err e) ≡ pos 0) × (report_escape (Err e) ≡ 0) × (report_returned (Err e) ≡ 0)
unfolding computing
report_zeros e = (refl, refl, refl, refl, refl, refl)

step_zeros : (e : Refusal) →
    (stepped_number (Err e) ≡ number e) × (stepped_probes (Err e) ≡ Probes.Nothing) ×
    (stepped_reply (Err e) ≡ None) × (lent_answer (Err e) ≡ Err e)
unfolding computing
step_zeros e = (refl, refl, refl, refl)

-- ==== the numbers of the C interface (include/pickledune.h)

-- the library is 1.0.0; an area that was started has layout 2 in word 0, whatever stood there (LayoutLaws of pickledune has it of every start)
versions :
    (library_version ≡ 10000) × (version_number 12 34 56 ≡ 123456) ×
    (get_or (words 52) check_place (pos 0) ≡ pos 9) × (get_or (start_area one 1 1 (words 52)) check_place (pos 0) ≡ pos 2)
unfolding computing
versions = (refl, refl, refl, refl)

accepted_numbers :
    (number_of (Ok (record { n = 5; m = 6 })) ≡ 0) × (n_found (Ok (record { n = 5; m = 6 })) ≡ 5) × (m_found (Ok (record { n = 5; m = 6 })) ≡ 6) ×
    (writing_number (Ok 32) ≡ 0) × (written_length (Ok 32) ≡ 32) ×
    (opened_number (Ok 5) ≡ 0) × (opened_arc (Ok 5) ≡ 5) × (next_arc (Some 5) ≡ 5) × (next_arc None ≡ 0) ×
    (started_number (Ok tt) ≡ 0) × (delivery_number (Ok Suc) ≡ 0) × (delivery_made (Ok Suc) ≡ 1) ×
    (reading_number (Ok idle) ≡ 0) × (reading_process (Ok (root (pos 5) 6)) ≡ root (pos 5) 6) ×
    (stepped_number (taken idle Sucs (acknowledgement 5 (only (pos 6)))) ≡ 0) × (stepped_probes (taken idle Sucs (acknowledgement 5 (only (pos 6)))) ≡ Sucs) ×
    (stepped_reply (taken idle Sucs (acknowledgement 5 (only (pos 6)))) ≡ acknowledgement 5 (only (pos 6)))
unfolding computing
accepted_numbers = (refl, refl, refl, refl, refl, refl, refl, refl, refl, refl, refl, refl, refl, refl, refl, refl, refl)

-- kinds: a suc probe 1, a pre probe 2, an acknowledgement 3 with its counts; any other kind is refused with 21, as a count out of range is
kinds :
    (delivery_kind (Ok Suc) ≡ 1) × (delivery_counts (Ok Suc) ≡ only (pos 0)) × (message_of 1 (counted (pos 5) (pos 6)) ≡ Suc) ×
    (delivery_kind (Ok Pre) ≡ 2) × (delivery_counts (Ok Pre) ≡ only (pos 0)) × (message_of 2 (counted (pos 5) (pos 6)) ≡ Pre) ×
    (delivery_kind (Ok (Ack (counted (minus 5) (pos 6)))) ≡ 3) ×
    (delivery_counts (Ok (Ack (counted (minus 5) (pos 6)))) ≡ counted (minus 5) (pos 6)) ×
    (message_of 3 (counted (minus 5) (pos 6)) ≡ Ack (counted (minus 5) (pos 6))) ×
    (stepped (message_of 0 (only (pos 0))) 0 0 1 idle ≡ Err (numbered 21)) × (stepped (message_of 4 (only (pos 0))) 0 0 1 idle ≡ Err (numbered 21))
unfolding computing
kinds = (refl, refl, refl, refl, refl, refl, refl, refl, refl, refl, refl)

-- chains: 0 the out-chain, any other the in-chain. Probes: 0 none, 1 suc, 2 pre. The acknowledgement: to whom and its counts, 0s if there is none
chains_and_probes :
    (chain_of 0 ≡ Out) × (chain_of 1 ≡ In) × (chain_of 2 ≡ In) ×
    (probes_number Probes.Nothing ≡ 0) × (probes_number Sucs ≡ 1) × (probes_number Pres ≡ 2) ×
    (reply_receiver None ≡ 0) × (counts_replied None ≡ only (pos 0)) × (reply_receiver (acknowledgement 5 (only (minus 6))) ≡ 5) ×
    (counts_replied (acknowledgement 5 (counted (minus 6) (pos 7))) ≡ counted (minus 6) (pos 7))
unfolding computing
chains_and_probes = (refl, refl, refl, refl, refl, refl, refl, refl, refl, refl)

-- seed 0 (02, N13): its number, and zeros
seed_0_numbers :
    (ran_number (shuffled_answer 5 0 (area (receiving idle Suc))) ≡ 37) × (ran_over (shuffled_answer 5 0 (area (receiving idle Suc))) ≡ 0) ×
    (ran_made (shuffled_answer 5 0 (area (receiving idle Suc))) ≡ 0) ×
    (ran_number (shuffled_answer 5 1 (area (receiving idle Suc))) ≡ 0) × (ran_over (shuffled_answer 5 1 (area (receiving idle Suc))) ≡ 1) ×
    (ran_made (shuffled_answer 5 1 (area (receiving idle Suc))) ≡ 2)
unfolding computing
seed_0_numbers = (refl, refl, refl, refl, refl, refl)

-- over 1, spent 0, with the number made; knot 1, none 0; returned 1, held 0
ends :
    (ran_number (Ok (Ran.Over 5)) ≡ 0) × (ran_over (Ok (Ran.Over 5)) ≡ 1) × (ran_made (Ok (Ran.Over 5)) ≡ 5) ×
    (ran_number (Ok (Ran.Spent 5)) ≡ 0) × (ran_over (Ok (Ran.Spent 5)) ≡ 0) × (ran_made (Ok (Ran.Spent 5)) ≡ 5) ×
    (report_number (told 5 Free (minus 6) 7 Held) ≡ 0) × (report_count (told 5 Free (minus 6) 7 Held) ≡ 5) ×
    (report_outside (told 5 Free (minus 6) 7 Held) ≡ minus 6) × (report_escape (told 5 Free (minus 6) 7 Held) ≡ 7) ×
    (report_knot (told 5 Knot (pos 0) 0 Held) ≡ 1) × (report_knot (told 5 Free (pos 0) 0 Returned) ≡ 0) ×
    (report_returned (told 5 Free (pos 0) 0 Returned) ≡ 1) × (report_returned (told 5 Knot (pos 0) 0 Held) ≡ 0)
unfolding computing
ends = (refl, refl, refl, refl, refl, refl, refl, refl, refl, refl, refl, refl, refl, refl)

-- ==== sentences of 01

-- "In 1-2, 2-1, when both probes reach 2 before its acknowledgements, 2 returns counts 1 and −1": the picks, and what each answers
counts_1_and_minus_1 :
    answers (start_run (waits_of (field_of both)) 1 1) ((1, 2) ∷ (1, 2) ∷ (2, 1) ∷ (2, 1) ∷ (2, 1) ∷ (1, 2) ∷ (1, 2) ∷ (2, 1) ∷ (2, 1) ∷ [])
    ≡ Ok Suc ∷ Ok Pre ∷ Ok Suc ∷ Ok (Ack (only (pos 1))) ∷ Ok Pre ∷
    Ok (Ack (only (pos 0))) ∷ Ok (Ack (only (pos 0))) ∷ Ok (Ack (only (minus 1))) ∷ Err (numbered 23) ∷ []
unfolding computing
counts_1_and_minus_1 = refl

-- "22 never occurs in a run made by start and deliveries": the number that a delivery meets is none of those that a list can answer
never_22_is_met_by_no_list : (w : Waits) (s ed : ℕ) (p : Passed Run) → Promise w s ed p
    → Memᴰ (delivery_number (pick (receiving idle (Ack (only (pos 0)))) 1 2 1).answer) p.numbers → ⊥
unfolding computing
never_22_is_met_by_no_list w s ed p h m = none (h.answers 22 m)
  where
    none : Memᴰ {A = ℕ} 22 (0 ∷ 23 ∷ 24 ∷ 25 ∷ 26 ∷ 31 ∷ 37 ∷ []) → ⊥
    none (Memᴰ.head e) = eqb-false 22 0 refl e
    none (Memᴰ.tail (Memᴰ.head e)) = eqb-false 22 23 refl e
    none (Memᴰ.tail (Memᴰ.tail (Memᴰ.head e))) = eqb-false 22 24 refl e
    none (Memᴰ.tail (Memᴰ.tail (Memᴰ.tail (Memᴰ.head e)))) = eqb-false 22 25 refl e
    none (Memᴰ.tail (Memᴰ.tail (Memᴰ.tail (Memᴰ.tail (Memᴰ.head e))))) = eqb-false 22 26 refl e
    none (Memᴰ.tail (Memᴰ.tail (Memᴰ.tail (Memᴰ.tail (Memᴰ.tail (Memᴰ.head e)))))) = eqb-false 22 31 refl e
    none (Memᴰ.tail (Memᴰ.tail (Memᴰ.tail (Memᴰ.tail (Memᴰ.tail (Memᴰ.tail (Memᴰ.head e))))))) =
        eqb-false 22 37 refl e
    none (Memᴰ.tail (Memᴰ.tail (Memᴰ.tail (Memᴰ.tail (Memᴰ.tail (Memᴰ.tail (Memᴰ.tail x))))))) =
        Memᴰ.not-nil x

-- "Each ordered pair of neighbours has one link": a message between others makes a run that is not well formed
no_message_without_a_link : ((pick unlinked 2 1 1).answer ≡ Err (numbered 21)) × ((run_on 1 unlinked).answer ≡ halted 21 0)
unfolding computing
no_message_without_a_link = (refl, refl)

-- the words that the program prints, but for those of its example (lines, Examples)
words_printed :
    (message_text Pre ≡ bytes " pre") × (verdict_line Knot ≡ bytes "verdict knot\n") × (mark_line Returned ≡ bytes "mark returned\n")
unfolding computing
words_printed = (refl, refl, refl)
