-- `delivery::delivering::prepare_message` meets its contract: 22 for each of its reasons, and else the step.
use Rattle.std.proofs.Common.{not, ap, ◌≡◌, rules, Err}
use Rattle.delivery.proofs.Deliveries.{arriving, step_asks, step_refused, count_full, room_asks, links_full, prepared}
use Rattle.delivery.proofs.delivering.prepare_message.Goals as goal

pub step_at-requires-clause-a_is_process : goal.step_at-requires-clause-a_is_process
step_at-requires-clause-a_is_process c = (step_asks (arriving c.args.area.ready c.requires.neighbours c.requires.numbers c.requires.small_counts)).0

pub step_at-requires-clause-b_is_process : goal.step_at-requires-clause-b_is_process
step_at-requires-clause-b_is_process c = (step_asks (arriving c.args.area.ready c.requires.neighbours c.requires.numbers c.requires.small_counts)).1

pub returns-in_err-turn : goal.returns-in_err-turn
returns-in_err-turn c =
    let told : c.from_residual.result ≡ Err c.in_err-turn.field-0.0 = search rules in
    rw told (step_refused (arriving c.args.area.ready c.requires.neighbours c.requires.numbers c.requires.small_counts) c.step_at.ensures c.in_err-turn.was)

pub returns-then-count-ge-MOST_DELIVERIES : goal.returns-then-count-ge-MOST_DELIVERIES
returns-then-count-ge-MOST_DELIVERIES c =
    count_full (arriving c.args.area.ready c.requires.neighbours c.requires.numbers c.requires.small_counts) c.count.ensures c.if-count-ge-MOST_DELIVERIES.true

pub has_room-requires-clause-is_process : goal.has_room-requires-clause-is_process
has_room-requires-clause-is_process c = (step_asks (arriving c.args.area.ready c.requires.neighbours c.requires.numbers c.requires.small_counts)).1

pub has_room-requires-clause-reply_near : goal.has_room-requires-clause-reply_near
has_room-requires-clause-reply_near c =
    room_asks (arriving c.args.area.ready c.requires.neighbours c.requires.numbers c.requires.small_counts) c.step_at.ensures c.in_ok-turn.was

pub returns-then-not-has_room : goal.returns-then-not-has_room
returns-then-not-has_room c =
    links_full (arriving c.args.area.ready c.requires.neighbours c.requires.numbers c.requires.small_counts) c.step_at.ensures c.in_ok-turn.was
    c.has_room.result c.has_room.ensures (ap not c.if-not-has_room.true)

pub returns : goal.returns
returns c =
    prepared (arriving c.args.area.ready c.requires.neighbours c.requires.numbers c.requires.small_counts) c.step_at.ensures c.in_ok-turn.was
    c.count.ensures c.if-count-ge-MOST_DELIVERIES.false c.has_room.result c.has_room.ensures (ap not c.if-not-has_room.false)
