-- Each way out, and one more turn, by what the step of the turn answered.
use Rattle.std.proofs.Common.{rules, arith, of_calls}
use Rattle.streams.proofs.Taken.{at_the_last, at_a_failure, by_one_more, at_the_end}
use Rattle.streams.proofs.each_case.Goals as goal

pub returns-in_err-step : goal.returns-in_err-step
returns-in_err-step g c =
    at_a_failure (goal.F-step g) c.args.step c.steps.step c.in_err-step.field-0.0 c.step.new.self _ c.step.result c.step.ensures c.steps.invariant.1 (omega arith) (search rules) _
    (search rules)

pub steps-preserved : goal.steps-preserved
steps-preserved g c =
    let more = by_one_more (goal.F-step g) c.args.step c.steps.step in
    (search of_calls, search (rules, more))

pub returns : goal.returns
returns g c =
    let last = at_the_last (goal.F-step g) c.args.step c.steps.step in
    let end = at_the_end (goal.F-step g) c.args.step c.steps.step in
    search (rules, last, end)
