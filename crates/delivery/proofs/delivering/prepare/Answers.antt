-- `delivery::delivering::prepare` meets its contract: 24, 31, or the delivery of the message at that place.
use Rattle.std.proofs.Common.{◌∙◌, ◌≡◌, rules, Err}
use Rattle.lenses.specs.ReadyLaws.{ready_near}
use Rattle.delivery.proofs.Deliveries.{none_there, message_small, message_prepared}
use Rattle.delivery.proofs.delivering.prepare.Goals as goal

pub prepare_message-requires-clause-neighbours : goal.prepare_message-requires-clause-neighbours
prepare_message-requires-clause-neighbours c = ready_near _ _ _ c.requires.linked.joined

pub prepare_message-requires-clause-small_counts : goal.prepare_message-requires-clause-small_counts
prepare_message-requires-clause-small_counts c = message_small c.args.area.ready _ _ _ c.at_place.ensures c.in_ok-message.was

pub returns-in_err-message : goal.returns-in_err-message
returns-in_err-message c =
    let told : c.from_residual.result ≡ Err c.in_err-message.field-0.0 = search rules in
    told ∙ none_there c.args.area.ready _ _ _ c.at_place.ensures c.in_err-message.was

pub returns : goal.returns
returns c = message_prepared c.args.area.ready _ _ _ c.at_place.ensures c.in_ok-message.was c.prepare_message.ensures
