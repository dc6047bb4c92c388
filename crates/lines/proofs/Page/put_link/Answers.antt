-- `lines::Page::put_link` meets its contract: who chose the link, and its two ends.
use Rattle.lines.specs.Text.{link_text}
use Rattle.lines.specs.AddingLaws.{◌adds-then◌}
use Rattle.lines.proofs.Page.put_link.Goals as goal

pub returns : goal.returns
unfolding link_text
returns c = c.put_who.ensures adds-then c.put_field.ensures adds-then c.put_field-2.ensures
