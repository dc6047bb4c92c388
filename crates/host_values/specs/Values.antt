-- For each case of an answer 01's values as the C interface gives them, zeros elsewhere. The numbers that demand 3 speaks of
-- stand beside their answers (checks, Calls; machine, Calls).
--   kind_of m            == the kind of a message as a number: 1 a suc probe, 2 a pre probe, 3 an acknowledgement
--   delivery_kind, delivery_counts   == "It answers with that message": its kind and its two counts (02, N3)
--   ran_over             == "It says over, or spent": 1 if over
--   knot_bit, returned_bit   == 1 for the verdict knot, and for the mark returned
--   report_count, report_knot, report_outside, report_escape, report_returned   == "over count", the verdict, "outside = cs of s", the escape, the mark
--   reading_process      == the record that was read
--   stepped_number, stepped_probes, stepped_reply   == the number of a step, and "the probes to broadcast and the one acknowledgement to send"
-- Assumes nothing.
use Rattle.std.specs.Prelude.{ℕ, ℤ, pos, Option, None, Result, Ok, Err}
use Rattle.refusals.specs.declared.Refusal.{Refusal}
use Rattle.refusals.specs.Numbers.{number_of}
use Rattle.machine.specs.declared.Ran.{Ran}
use Rattle.machine.specs.declared.Ran.TheVariants.{Spent}
use Rattle.machine.specs.declared.Halted.{Halted}
use Rattle.steps.specs.declared.Message.{Message}
use Rattle.steps.specs.declared.Message.TheVariants.{Suc, Pre, Ack}
use Rattle.steps.specs.declared.Process.{Process}
use Rattle.steps.specs.declared.Probes.{Probes}
use Rattle.steps.specs.declared.Reply.{Reply}
use Rattle.steps.specs.declared.TwoCounts.{TwoCounts}
use Rattle.steps.specs.Step.{Turn, idle, no_counts}
use Rattle.steps.specs.Effect.{counts_of}
use Rattle.checks.specs.declared.Verdict.{Verdict}
use Rattle.checks.specs.declared.Verdict.TheVariants.{Knot, Free}
use Rattle.checks.specs.declared.Mark.{Mark}
use Rattle.checks.specs.declared.Mark.TheVariants.{Returned, Held}
use Rattle.checks.specs.declared.Report.{Report}

-- 1 a suc probe, 2 a pre probe, 3 an acknowledgement
abbrev pub kind_of : Message → ℕ
kind_of Suc = 1
kind_of Pre = 2
kind_of (Ack c) = 3

-- "It answers with that message": its kind and its two counts (02, N3)
abbrev pub delivery_kind : Result Message Refusal → ℕ
delivery_kind (Ok m) = kind_of m
delivery_kind (Err e) = 0

abbrev pub delivery_counts : Result Message Refusal → TwoCounts
delivery_counts (Ok m) = counts_of m
delivery_counts (Err e) = no_counts

-- "It says over, or spent": 1 if over
abbrev pub ran_over : Result Ran Halted → ℕ
ran_over (Ok (Ran.Over made)) = 1
ran_over (Ok (Spent made)) = 0
ran_over (Err h) = 0

-- "over count"
abbrev pub report_count : Result Report Refusal → ℕ
report_count (Ok r) = r.deliveries
report_count (Err e) = 0

abbrev pub knot_bit : Verdict → ℕ
knot_bit Knot = 1
knot_bit Free = 0

abbrev pub report_knot : Result Report Refusal → ℕ
report_knot (Ok r) = knot_bit r.verdict
report_knot (Err e) = 0

-- "outside = cs of s"
abbrev pub report_outside : Result Report Refusal → ℤ
report_outside (Ok r) = r.outside
report_outside (Err e) = pos 0

-- the process that a report names
abbrev pub report_escape : Result Report Refusal → ℕ
report_escape (Ok r) = r.escape
report_escape (Err e) = 0

abbrev pub returned_bit : Mark → ℕ
returned_bit Returned = 1
returned_bit Held = 0

abbrev pub report_returned : Result Report Refusal → ℕ
report_returned (Ok r) = returned_bit r.mark
report_returned (Err e) = 0

abbrev pub reading_process : Result Process Refusal → Process
reading_process (Ok x) = x
reading_process (Err e) = idle

abbrev pub stepped_number : Result Turn Refusal → ℕ
stepped_number a = number_of a

-- "the result names the probes to broadcast and the one acknowledgement to send, if there is one"
abbrev pub stepped_probes : Result Turn Refusal → Probes
stepped_probes (Ok t) = t.sent.probes
stepped_probes (Err e) = Probes.Nothing

abbrev pub stepped_reply : Result Turn Refusal → Option Reply
stepped_reply (Ok t) = t.sent.reply
stepped_reply (Err e) = None
