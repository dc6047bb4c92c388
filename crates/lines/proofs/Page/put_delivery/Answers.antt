-- `lines::Page::put_delivery` meets its contract: the link, the message and the end of the line.
use Rattle.lines.specs.Text.{delivery_line}
use Rattle.lines.specs.AddingLaws.{◌adds-then◌}
use Rattle.lines.proofs.Page.put_delivery.Goals as goal

pub returns : goal.returns
unfolding delivery_line
returns c = c.put_link.ensures adds-then c.put_message.ensures adds-then c.put_word.ensures
