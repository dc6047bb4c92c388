-- `lines::Page::put_flags` meets its contract: the three flags, each as a field.
use Rattle.lines.specs.Text.{flags_text}
use Rattle.lines.specs.AddingLaws.{◌adds-then◌}
use Rattle.lines.proofs.Page.put_flags.Goals as goal

pub returns : goal.returns
unfolding flags_text
returns c = c.put_field.ensures adds-then c.put_field-2.ensures adds-then c.put_field-3.ensures
