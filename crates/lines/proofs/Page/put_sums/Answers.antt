-- `lines::Page::put_sums` meets its contract: the sum, num and the second sum, each as a field.
use Rattle.std.proofs.Common.{arith}
use Rattle.steps.proofs.Counts.{signed_back}
use Rattle.lines.specs.Text.{sums_text}
use Rattle.lines.specs.AddingLaws.{◌adds-then◌}
use Rattle.lines.proofs.Page.put_sums.Goals as goal

pub returns : goal.returns
unfolding sums_text
returns c =
    let x = c.args.x in
    (rw (signed_back x.cs (omega arith)) at c.put_count_field.ensures) adds-then c.put_field.ensures adds-then
    (rw (signed_back x.second (omega arith)) at c.put_count_field-2.ensures)
