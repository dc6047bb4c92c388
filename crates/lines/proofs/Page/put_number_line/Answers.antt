-- `lines::Page::put_number_line` meets its contract: the word, the number and the end of the line.
use Rattle.lines.specs.Text.{number_line}
use Rattle.lines.specs.AddingLaws.{◌adds-then◌}
use Rattle.lines.proofs.Page.put_number_line.Goals as goal

pub returns : goal.returns
unfolding number_line
returns c = c.put_word.ensures adds-then c.put_field.ensures adds-then c.put_word-2.ensures
