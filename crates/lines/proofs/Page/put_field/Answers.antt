-- `lines::Page::put_field` meets its contract: a space, and then the number.
use Rattle.lines.specs.Text.{field}
use Rattle.lines.specs.AddingLaws.{◌adds-then◌}
use Rattle.lines.proofs.Page.put_field.Goals as goal

pub returns : goal.returns
unfolding field
returns c = c.put_word.ensures adds-then c.put_number.ensures
