-- `lines::Page::put_report` meets its contract: the five lines.
use Rattle.std.proofs.Common.{arith}
use Rattle.steps.proofs.Counts.{signed_back}
use Rattle.lines.specs.Text.{over_line, escape_line, report_text}
use Rattle.lines.specs.AddingLaws.{◌adds-then◌}
use Rattle.lines.proofs.Page.put_report.Goals as goal

pub returns : goal.returns
unfolding report_text over_line escape_line
returns c =
    c.put_number_line.ensures adds-then c.put_verdict.ensures adds-then
    (rw (signed_back c.args.report.outside (omega arith)) at c.put_outside.ensures) adds-then c.put_number_line-2.ensures
    adds-then c.put_mark.ensures
