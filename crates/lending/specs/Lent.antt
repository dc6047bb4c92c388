-- A process record that a host lends with one message (01, "Steps"): what is answered, and what the record then holds.
--   lent_answer a       == of the answer a of the step, "the probes to broadcast and the one acknowledgement to send", or its refusal
--   lent_record x a     == the record afterwards, x being the record that was lent: the new one, or x itself on a refusal
--   lent_outcome x a    == the two together
-- Assumes nothing.
use Rattle.std.specs.Prelude.{Result, Ok, Err}
use Rattle.refusals.specs.declared.Refusal.{Refusal}
use Rattle.steps.specs.declared.Process.{Process}
use Rattle.steps.specs.declared.Sent.{Sent}
use Rattle.steps.specs.Step.{Turn}
use Rattle.lending.specs.declared.Outcome.{Outcome}

-- "the result names the probes to broadcast and the one acknowledgement to send"; "A refusal returns its number": its name has it
unfoldable pub lent_answer : Result Turn Refusal → Result Sent Refusal
lent_answer (Ok t) = Ok t.sent
lent_answer (Err e) = Err e

-- "have it updated by the step"; a refusal "changes no lent byte or word"
unfoldable pub lent_record : Process → Result Turn Refusal → Process
lent_record old (Ok t) = t.process
lent_record old (Err e) = old

abbrev pub lent_outcome : Process → Result Turn Refusal → Outcome
lent_outcome old a = record { process = lent_record old a; answer = lent_answer a }
