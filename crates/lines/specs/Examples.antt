-- The lines of 01's example with the second numbers of 02, N3, and its refused pick and negative count, computed from the definitions.
--   bytes t   == the quoted text t, a byte for each character
-- Assumes nothing.
use Rattle.std.specs.Prelude.{true, false, ◌≡◌, refl, pos, negsuc}
use Rattle.steps.specs.declared.Message.TheVariants.{Suc, Ack}
use Rattle.checks.specs.declared.Verdict.TheVariants.{Free}
use Rattle.checks.specs.declared.Mark.TheVariants.{Held}
use Rattle.lines.specs.Text.{bytes, decimal_to, decimal, signed, field, count_field, link_text, message_text, delivery_line, refused_pick_line}
use Rattle.lines.specs.Text.{number_line, refused_line, flags_text, sums_text, process_line, over_line, verdict_line, outside_line, escape_line, mark_line}
use Rattle.lines.specs.Text.{report_text}

first_delivery : delivery_line false 1 2 Suc ≡ bytes "pick 1 2 suc\n"
unfolding delivery_line link_text field message_text decimal decimal_to
first_delivery = refl

second_delivery : delivery_line true 2 1 (Ack (record { count = pos 1; second = pos 1 })) ≡ bytes "own 2 1 ack 1 1\n"
unfolding delivery_line link_text field message_text count_field signed decimal decimal_to
second_delivery = refl

first_process :
    process_line 1 (record { succeeding = 1; preceding = 1; subordinate = 0; cs = pos 1; num = 0; father = 0; second = pos 1 })
    ≡ bytes "process 1 1 1 0 1 0 1\n"
unfolding process_line flags_text sums_text field count_field signed decimal decimal_to
first_process = refl

second_process :
    process_line 2 (record { succeeding = 1; preceding = 0; subordinate = 1; cs = pos 0; num = 0; father = 1; second = pos 0 })
    ≡ bytes "process 2 1 0 1 0 0 0\n"
unfolding process_line flags_text sums_text field count_field signed decimal decimal_to
second_process = refl

report : report_text 2 Free (pos 1) 2 Held ≡ bytes "over 2\nverdict none\noutside 1\nescape 2\nmark held\n"
unfolding report_text number_line over_line verdict_line outside_line escape_line mark_line field count_field signed decimal decimal_to
report = refl

refused_pick : refused_pick_line 1 2 24 ≡ bytes "pick 1 2 refused 24\n"
unfolding refused_pick_line link_text field decimal decimal_to
refused_pick = refl

refused_input : refused_line 13 ≡ bytes "refused 13\n"
unfolding refused_line number_line field decimal decimal_to
refused_input = refl

negative_count : message_text (Ack (record { count = negsuc 0; second = negsuc 1 })) ≡ bytes " ack -1 -2"
unfolding message_text count_field signed decimal decimal_to
negative_count = refl
