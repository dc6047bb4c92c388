-- 01's example, with the edition of 02, N4, and the second numbers of 02, N3, computed from the definition of all that is printed; one with
-- several lines of each kind; and two inputs that are refused.
--   example_input   == one wait, 1 for 2; start 1, edition 1, one pick, 1 to 2
--   several_input   == 1 waits for 2 and for 3; start 1, edition 1, two picks, 1 to 3 and then 2 to 1, where nothing waits
--   examples, empty, no_process   == what the program prints for these, for no byte at all, and for a table of no processes
-- Assumes nothing.
use Rattle.std.specs.Prelude.{ℕ, List, [], ◌∷◌, ◌≡◌, refl}
use Rattle.base.specs.Sums.{sum_to, count_to, all_to, any_to, lowest_to}
use Rattle.tables.specs.Table.{field_of, is_process, first, arc_at, near, next}
use Rattle.tables.specs.Waits.{waits_of, out_degree, in_degree, neighbours}
use Rattle.tables.specs.Reading.{walked, walked_to, chains_right, sizes_right, ends_right, firsts_right, nexts_right, unlike_before, fields_number, read_number}
use Rattle.machine.specs.Machine as Machines
use Rattle.machine.specs.Calls as MachineCalls
use Rattle.machine.specs.Lists.{in_turn}
use Rattle.steps.specs.Step.{small, in_range, count_small, rule1, set_succeeding, set_preceding, new_subordinate, gained, rule3, rule4, acknowledged}
use Rattle.steps.specs.Step.{both_small, own_count, turn, start_turn, num_suffices, reply_fits, fitting}
use Rattle.checks.specs.Run.{is_edition, father_right, started, turn_of, reply_receiver, probes_to, sent_to}
use Rattle.checks.specs.Calls.{escape_of, verdict_of, reported, report}
use Rattle.checks.specs.Reach.{edition_allows, waits_for_some}
use Rattle.starting.specs.StartCall.{start_number}
use Rattle.inputs.specs.Input.{start_in, edition_in, table_fields, table_end, table_in, picks_in, input_number, pick_from, pick_to, begun_number}
use Rattle.lines.specs.Text.{bytes, decimal_to, decimal, signed, field, count_field, link_text, message_text, delivery_line, refused_pick_line}
use Rattle.lines.specs.Text.{number_line, refused_line, flags_text, sums_text, process_line, over_line, verdict_line, outside_line, escape_line, mark_line}
use Rattle.lines.specs.Text.{report_text}
use Rattle.program_text.specs.Program.{picks_on, picks_text, own_text, processes_text, end_text, rest_text, check_text, program_text}

abbrev example_input : List ℕ
example_input =
    1 ∷ 0 ∷ 1 ∷ 0 ∷ 2 ∷ 0 ∷ 1 ∷ 0 ∷ 1 ∷ 0 ∷ 0 ∷ 0 ∷ 0 ∷ 0 ∷ 1 ∷ 0 ∷ 1 ∷ 0 ∷ 2 ∷ 0 ∷ 0 ∷ 0 ∷ 0 ∷ 0 ∷ 1 ∷ 0 ∷ 2 ∷ 0 ∷ []

abbrev several_input : List ℕ
several_input =
    1 ∷ 0 ∷ 1 ∷ 0 ∷ 3 ∷ 0 ∷ 2 ∷ 0 ∷ 2 ∷ 0 ∷ 0 ∷ 0 ∷ 0 ∷ 0 ∷ 1 ∷ 0 ∷ 0 ∷ 0 ∷ 2 ∷ 0 ∷ 1 ∷ 0 ∷ 2 ∷ 0 ∷ 0 ∷ 0 ∷ 0 ∷ 0 ∷ 1 ∷ 0 ∷ 3 ∷ 0 ∷ 1 ∷ 0 ∷ 0 ∷ 0
    ∷ 1 ∷ 0 ∷ 3 ∷ 0 ∷ 2 ∷ 0 ∷ 1 ∷ 0 ∷ []

examples : (program_text example_input
    ≡ bytes "pick 1 2 suc\nown 2 1 ack 1 1\nprocess 1 1 1 0 1 0 1\nprocess 2 1 0 1 0 0 0\nover 2\nverdict none\noutside 1\nescape 2\nmark held\n")
    × (program_text several_input
    ≡ bytes "pick 1 3 suc\npick 2 1 refused 24\nown 3 1 ack 1 1\nown 1 2 suc\nown 2 1 ack 1 1\nprocess 1 1 1 0 2 0 2\nprocess 2 1 0 1 0 0 0\nprocess 3 1 0 1 0 0 0\nover 4\nverdict none\noutside 2\nescape 2\nmark held\n")
unfolding program_text check_text picks_on picks_text own_text processes_text end_text rest_text in_turn
    sum_to count_to all_to any_to lowest_to field_of is_process first arc_at near next waits_of out_degree in_degree neighbours
    walked walked_to chains_right sizes_right ends_right firsts_right nexts_right unlike_before fields_number read_number
    Machines.all_right Machines.taken Machines.over Machines.link_right Machines.well_formed Machines.start_run Machines.after Machines.accepts
    MachineCalls.behind MachineCalls.at_place MachineCalls.delivered MachineCalls.deliver MachineCalls.pick MachineCalls.deliver_on
    MachineCalls.run_from MachineCalls.run_on MachineCalls.in_row MachineCalls.link_at MachineCalls.link_if MachineCalls.links_to MachineCalls.links_of
    MachineCalls.lowest
    small in_range count_small rule1 set_succeeding set_preceding new_subordinate gained rule3 rule4 acknowledged
    both_small own_count turn start_turn num_suffices reply_fits fitting
    is_edition father_right started turn_of reply_receiver probes_to sent_to escape_of verdict_of reported report edition_allows waits_for_some
    start_number start_in edition_in table_fields table_end table_in picks_in input_number pick_from pick_to begun_number
    decimal_to decimal signed field count_field link_text message_text delivery_line refused_pick_line
    number_line refused_line flags_text sums_text process_line over_line verdict_line outside_line escape_line mark_line report_text
examples = (refl, refl)

empty : program_text [] ≡ bytes "refused 1\n"
unfolding program_text begun_number input_number refused_line number_line field decimal decimal_to
empty = refl

no_process : program_text (1 ∷ 0 ∷ 1 ∷ 0 ∷ 0 ∷ 0 ∷ 1 ∷ 0 ∷ []) ≡ bytes "refused 2\n"
unfolding program_text begun_number input_number table_fields field_of sizes_right refused_line number_line field decimal decimal_to
no_process = refl
