-- `end_lines::put_report` meets its contract: the lines of the report, or that of its refusal.
use Rattle.std.proofs.Common.{sym, ◌∙◌}
use Rattle.area_calls.specs.CallLaws.{report_on}
use Rattle.end_lines.proofs.put_report.Goals as goal

pub put_report-requires : goal.put_report-requires
put_report-requires c = let is = sym (c.report_in.ensures ∙ report_on _ c.args.area.ready.right) ∙ c.in-Ok.is in rw is at c.requires

pub put_refused-requires : goal.put_refused-requires
put_refused-requires c =
    let is = sym (c.report_in.ensures ∙ report_on _ c.args.area.ready.right) ∙ c.in-Err.is in
    rw c.from.ensures (rw is at c.requires)

pub returns-in-Ok : goal.returns-in-Ok
returns-in-Ok c = let is = sym (c.report_in.ensures ∙ report_on _ c.args.area.ready.right) ∙ c.in-Ok.is in rw is c.put_report.ensures

pub returns-in-Err : goal.returns-in-Err
returns-in-Err c =
    let is = sym (c.report_in.ensures ∙ report_on _ c.args.area.ready.right) ∙ c.in-Err.is in
    rw (is, ← c.from.ensures) c.put_refused.ensures
