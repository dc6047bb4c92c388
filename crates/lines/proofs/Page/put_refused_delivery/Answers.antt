-- `lines::Page::put_refused_delivery` meets its contract: the link, the word, the number and the end of the line.
use Rattle.lines.specs.Text.{refused_pick_line}
use Rattle.lines.specs.AddingLaws.{◌adds-then◌}
use Rattle.lines.proofs.Page.put_refused_delivery.Goals as goal

pub returns : goal.returns
unfolding refused_pick_line
returns c = c.put_link.ensures adds-then c.put_word.ensures adds-then c.put_field.ensures adds-then c.put_word-2.ensures
