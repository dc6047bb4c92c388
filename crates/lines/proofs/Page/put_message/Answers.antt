-- `lines::Page::put_message` meets its contract, by the kinds of message.
use Rattle.std.proofs.Common.{arith}
use Rattle.steps.proofs.Counts.{signed_back}
use Rattle.lines.specs.Text.{message_text}
use Rattle.lines.specs.AddingLaws.{◌adds-then◌}
use Rattle.lines.proofs.Page.put_message.Goals as goal

pub returns-in-Ack : goal.returns-in-Ack
unfolding message_text
returns-in-Ack c =
    rw c.in-Ack.is
    (c.put_word-in-Ack.ensures adds-then
    (rw (signed_back c.in-Ack.counts.count (omega arith)) at c.put_count_field.ensures) adds-then
    (rw (signed_back c.in-Ack.counts.second (omega arith)) at c.put_count_field-in-Ack.ensures))
