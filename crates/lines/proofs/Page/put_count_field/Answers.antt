-- `lines::Page::put_count_field` meets its contract: a space, and then the number.
use Rattle.steps.proofs.Counts.{signed_back}
use Rattle.lines.specs.Text.{count_field}
use Rattle.lines.specs.AddingLaws.{◌adds-then◌}
use Rattle.lines.proofs.Page.put_count_field.Goals as goal

pub returns : goal.returns
unfolding count_field
returns c = c.put_word.ensures adds-then (rw (signed_back c.args.z c.ranges.z.sfits) at c.put_signed.ensures)
