-- `picks::picking::pick` meets its contract: 21 where the test fails, and else the pick in a tested area.
use Rattle.std.proofs.Common.{ap, ◌∙◌, ◌≡◌, rules, Err}
use Rattle.area_calls.specs.CallLaws.{pick_21}
use Rattle.area_calls.specs.TestedLaws.{wrong_area, wrong_named, right_ready}
use Rattle.picks.proofs.picking.pick.Goals as goal

pub returns-in_err-sizes : goal.returns-in_err-sizes
returns-in_err-sizes c =
    let told : c.from_residual.result ≡ Err c.in_err-sizes.field-0.0 = search rules in
    let a = c.args in
    let h = pick_21 a.area.now (wrong_area a.area.now _ c.test.ensures c.in_err-sizes.was) a.from a.to a.place in
    record { answer = told ∙ ap Err (wrong_named a.area.now _ c.test.ensures c.in_err-sizes.was) ∙ h.0; area_after = h.1 }

pub pick_in-requires : goal.pick_in-requires
pick_in-requires c = right_ready c.args.area.now _ c.test.ensures _ c.in_ok-sizes.was
