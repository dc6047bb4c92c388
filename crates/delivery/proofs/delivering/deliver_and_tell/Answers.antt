-- `delivery::delivering::deliver_and_tell` meets its contract: a refusal changes nothing, and what is prepared is carried out.
use Rattle.lenses.specs.ReadyLaws.{ready_near}
use Rattle.delivery.proofs.Deliveries.{refusal_kept, carry_asks, delivery_leaves}
use Rattle.delivery.proofs.delivering.deliver_and_tell.Goals as goal

pub carry_out-requires-clause-carried : goal.carry_out-requires-clause-carried
carry_out-requires-clause-carried c =
    carry_asks c.requires.ready _ _ _ c.prepare.ensures (ready_near _ _ _ c.requires.linked.joined) c.in_ok-message.was

pub returns-in_err-message-clause-area_after : goal.returns-in_err-message-clause-area_after
returns-in_err-message-clause-area_after c = refusal_kept c.requires.ready _ _ _ c.prepare.ensures c.in_err-message.was

pub returns-clause-area_after : goal.returns-clause-area_after
returns-clause-area_after c =
    delivery_leaves c.requires.ready _ _ _ c.prepare.ensures (ready_near _ _ _ c.requires.linked.joined) c.in_ok-message.was c.carry_out.ensures
