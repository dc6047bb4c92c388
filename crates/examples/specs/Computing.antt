-- The definitions that examples compute.
--   computing   == it has no value of its own: `unfolding computing` opens every definition that its own line names
-- Assumes nothing.
use Prim.{Unit, tt}
use Rattle.base.specs.Sums.{sum_to, count_to, all_to, any_to, lowest_to}
use Rattle.shuffling.specs.Shuffle.{moved_on}
use Rattle.tables.specs.Table.{field_of, is_process, first, arc_at, near, next}
use Rattle.tables.specs.Waits.{waits_of, out_degree, in_degree, neighbours}
use Rattle.tables.specs.Reading.{walked, walked_to, chains_right, sizes_right, ends_right, firsts_right, nexts_right, unlike_before, fields_number, read_number, reading_of}
use Rattle.tables.specs.Walking.{or_else, open_number, opened_of, arc_inside, next_answer, next_of}
use Rattle.table_writer.specs.Writing.{end, front, process_field, arc_field, written_field, bytes_of, table_over, ends_fit, given, unlike, write_number}
use Rattle.table_writer.specs.Writing.{output_for, written, writing_of}
use Rattle.machine.specs.Machine as Machines
use Rattle.machine.specs.Calls as MachineCalls
use Rattle.steps.specs.Step.{small, in_range, count_small, rule1, set_succeeding, set_preceding, new_subordinate, gained, rule3, rule4, acknowledged}
use Rattle.steps.specs.Step.{both_small, own_count, turn, start_turn, num_suffices, reply_fits, fitting, lent_in_range, step_number, stepped, start_stepped}
use Rattle.checks.specs.Run.{is_edition, father_right, started, turn_of, reply_receiver, probes_to, sent_to}
use Rattle.checks.specs.Calls.{escape_of, verdict_of, reported, report, read_record}
use Rattle.checks.specs.Reach.{within, reaches, reaches_by_arcs, some_by_arcs, edition_allows, outsider, lowest_outsider, waits_for_some, all_wait, sink, sinks}
use Rattle.areas.specs.Area.{record_place, link_place, arc_in, arc_of, link_of, flags_of, code_of, slot_word, link_word, has_back, arc_word, word_of, words_to, stored}
use Rattle.areas.specs.Area.{fields_in, messages_at, run_in, same_word, holds_words, area_right}
use Rattle.areas.specs.Area as Areas
use Rattle.starting.specs.StartCall.{start_number, start_answer, start_area}
use Rattle.area_calls.specs.AreaCalls.{pick_answer, pick_area, run_on_answer, run_on_area, shuffled_answer, shuffled_area, report_answer, read_answer}
use Rattle.lending.specs.Lent.{lent_answer, lent_record}
use Rattle.inputs.specs.Input.{start_in, edition_in, table_fields, table_end, table_in, input_number, begun_number, begun_area}
use Rattle.lines.specs.Text.{message_text, verdict_line, mark_line}
use Rattle.host_values.specs.Interface.{chain_of, message_of}
use Rattle.examples.specs.States.{low_first, process_fields, arc_fields, table, one, both, fork, alone, loop, met1, met2, met3, met4, met5, met6, met7}
use Rattle.examples.specs.States.{beside, input, words, root_with, root, two, under, receiving, three, everywhere, loads, unlinked, area, answers}

unfoldable pub computing : Unit {0}
unfolding low_first process_fields arc_fields table one both fork alone loop beside met1 met2 met3 met4 met5 met6 met7 input
    words root_with root two under receiving three everywhere loads unlinked area answers
    sum_to count_to all_to any_to lowest_to field_of is_process first arc_at near next waits_of out_degree in_degree neighbours
    walked walked_to chains_right sizes_right ends_right firsts_right nexts_right unlike_before fields_number read_number reading_of
    or_else open_number opened_of arc_inside next_answer next_of
    end front process_field arc_field written_field bytes_of table_over ends_fit given unlike write_number output_for written writing_of
    Machines.all_right Machines.taken Machines.over Machines.link_right Machines.well_formed Machines.start_run Machines.after Machines.accepts
    MachineCalls.behind MachineCalls.at_place MachineCalls.delivered MachineCalls.deliver MachineCalls.pick MachineCalls.deliver_on
    MachineCalls.run_from MachineCalls.run_on MachineCalls.in_row MachineCalls.link_at MachineCalls.link_if MachineCalls.links_to MachineCalls.links_of
    MachineCalls.lowest moved_on MachineCalls.drawn MachineCalls.run_shuffled
    both_small own_count
    small in_range count_small rule1 set_succeeding set_preceding new_subordinate gained rule3 rule4 acknowledged turn start_turn num_suffices reply_fits
    fitting lent_in_range step_number stepped start_stepped
    is_edition father_right started turn_of reply_receiver probes_to sent_to escape_of verdict_of reported report read_record
    within reaches reaches_by_arcs some_by_arcs edition_allows outsider lowest_outsider waits_for_some all_wait sink sinks
    record_place link_place arc_in arc_of link_of flags_of code_of slot_word link_word has_back arc_word word_of words_to stored fields_in Areas.message_of
    messages_at run_in same_word holds_words area_right
    start_number start_answer start_area pick_answer pick_area run_on_answer run_on_area shuffled_answer shuffled_area report_answer read_answer
    lent_answer lent_record
    start_in edition_in table_fields table_end table_in input_number begun_number begun_area message_text verdict_line mark_line chain_of message_of
computing = tt
