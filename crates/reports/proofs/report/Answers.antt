-- `reports::report` meets its contract: 21 where the test fails, and else the report in a tested area.
use Rattle.std.proofs.Common.{ap, ◌∙◌, ◌≡◌, rules, Err}
use Rattle.area_calls.specs.CallLaws.{report_21}
use Rattle.area_calls.specs.TestedLaws.{wrong_area, wrong_named, right_ready}
use Rattle.reports.proofs.report.Goals as goal

pub returns-in_err-sizes : goal.returns-in_err-sizes
returns-in_err-sizes c =
    let told : c.from_residual.result ≡ Err c.in_err-sizes.field-0.0 = search rules in
    let w = c.args.area.now in
    told ∙ ap Err (wrong_named w _ c.test.ensures c.in_err-sizes.was) ∙ report_21 w (wrong_area w _ c.test.ensures c.in_err-sizes.was)

pub invariant_of-report_in : goal.invariant_of-report_in
invariant_of-report_in c = record { ready = right_ready c.args.area.now _ c.test.ensures _ c.in_ok-sizes.was }
