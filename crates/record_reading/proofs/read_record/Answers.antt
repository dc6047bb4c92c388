-- `record_reading::read_record` meets its contract: 21 where the test fails, and else reading a record in a tested area.
use Rattle.std.proofs.Common.{ap, ◌∙◌, ◌≡◌, rules, Err}
use Rattle.area_calls.specs.CallLaws.{read_21}
use Rattle.area_calls.specs.TestedLaws.{wrong_area, wrong_named, right_ready}
use Rattle.record_reading.proofs.read_record.Goals as goal

pub returns-in_err-sizes : goal.returns-in_err-sizes
returns-in_err-sizes c =
    let told : c.from_residual.result ≡ Err c.in_err-sizes.field-0.0 = search rules in
    let w = c.args.area.now in
    told ∙ ap Err (wrong_named w _ c.test.ensures c.in_err-sizes.was) ∙ read_21 w (wrong_area w _ c.test.ensures c.in_err-sizes.was) c.args.p

pub invariant_of-read_in : goal.invariant_of-read_in
invariant_of-read_in c = record { ready = right_ready c.args.area.now _ c.test.ensures _ c.in_ok-sizes.was }
