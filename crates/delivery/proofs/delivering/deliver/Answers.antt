-- `delivery::delivering::deliver` meets its contract: what is told, by its refusal or its message alone.
use Rattle.std.proofs.Common.{◌∙◌, ◌≡◌, rules, Err}
use Rattle.lenses.specs.ReadyLaws.{ready_near}
use Rattle.delivery.proofs.Deliveries.{told_number, told_message}
use Rattle.delivery.proofs.delivering.deliver.Goals as goal

pub returns-in_err-delivered-clause-told : goal.returns-in_err-delivered-clause-told
returns-in_err-delivered-clause-told c =
    let told : c.from_residual.result ≡ Err c.in_err-delivered.field-0.0 = search rules in
    told ∙ told_number c.requires.ready _ _ _ c.deliver_and_tell.ensures.told c.in_err-delivered.was

pub returns-clause-told : goal.returns-clause-told
returns-clause-told c =
    told_message c.requires.ready _ _ _ c.deliver_and_tell.ensures.told (ready_near _ _ _ c.requires.linked.joined) c.in_ok-delivered.was
