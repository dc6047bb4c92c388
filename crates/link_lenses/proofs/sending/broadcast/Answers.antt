-- `link_lenses::sending::broadcast` meets its contract. The loop's invariant: b has sent its probe to the far ends of the arcs passed. The measure
-- is how many arcs are left.
use Rattle.std.proofs.Common.{arith}
use Rattle.areas.specs.Area.{fields_in}
use Rattle.lenses.specs.ReadyLaws.{ready_sizes}
use Rattle.lenses.proofs.Holding.{holding_ready}
use Rattle.lenses.proofs.ChainWalks.{left_on, far_is, next_is, ready_right, ahead_far}
use Rattle.link_lenses.proofs.Spreads.{sending_first, sending_last, sending_arc, sending_link, sending_room, sending_on, sending_less}
use Rattle.link_lenses.proofs.sending.broadcast.Goals as goal

pub loop-k-init : goal.loop-k-init
loop-k-init c = sending_first c.requires.ready c.args.c c.args.b c.requires.is_process c.first-k.ensures

pub invariant_of-arc : goal.invariant_of-arc
invariant_of-arc c = record { ready = holding_ready c.requires.ready c.loop-k.invariant.holds }

pub cell_of-requires : goal.cell_of-requires
cell_of-requires c =
    let arc_is = sending_arc c.requires.ready c.args.c c.args.b c.requires.is_process c.requires.spreadable c.loop-k.invariant c.loop-k-test.true c.arc-arc.ensures in
    let to_is = far_is c.args.c (fields_in c.args.area.now) c.loop-k.k arc_is c.far_of-q.ensures in
    let l = c.loop-k in
    let u = (ahead_far c.requires.ready (left_on (ready_right c.requires.ready) l.k l.invariant.here c.loop-k-test.true)).1 in
    omega (arith, to_is, ready_sizes c.requires.ready, c.requires.row.long)

pub push-requires : goal.push-requires
push-requires c =
    let arc_is = sending_arc c.requires.ready c.args.c c.args.b c.requires.is_process c.requires.spreadable c.loop-k.invariant c.loop-k-test.true c.arc-arc.ensures in
    let to_is = far_is c.args.c (fields_in c.args.area.now) c.loop-k.k arc_is c.far_of-q.ensures in
    let l = c.loop-k in
    let room = sending_room c.requires.ready c.args.c c.args.b c.requires.is_process c.requires.spreadable l.invariant c.loop-k-test.true c.from.ensures to_is in
    record {
      ready = holding_ready c.requires.ready l.invariant.holds;
      linked = sending_link c.requires.ready c.args.c c.args.b c.requires.is_process c.requires.spreadable l.invariant c.loop-k-test.true c.requires.row to_is c.cell_of.ensures.is c.place-at.ensures;
      small_counts = room.0;
      has_slot = room.1;
    }

pub loop-k-smaller : goal.loop-k-smaller
loop-k-smaller c =
    let arc_is = sending_arc c.requires.ready c.args.c c.args.b c.requires.is_process c.requires.spreadable c.loop-k.invariant c.loop-k-test.true c.arc-arc.ensures in
    let next_arc = next_is c.args.c (fields_in c.args.area.now) c.loop-k.k arc_is c.next_of-k.ensures in
    sending_less c.requires.ready c.args.c c.args.b c.requires.is_process c.requires.spreadable c.loop-k.invariant c.loop-k-test.true next_arc

pub loop-k-preserved : goal.loop-k-preserved
loop-k-preserved c =
    let arc_is = sending_arc c.requires.ready c.args.c c.args.b c.requires.is_process c.requires.spreadable c.loop-k.invariant c.loop-k-test.true c.arc-arc.ensures in
    let to_is = far_is c.args.c (fields_in c.args.area.now) c.loop-k.k arc_is c.far_of-q.ensures in
    let next_arc = next_is c.args.c (fields_in c.args.area.now) c.loop-k.k arc_is c.next_of-k.ensures in
    sending_on c.requires.ready c.args.c c.args.b c.requires.is_process c.requires.spreadable c.loop-k.invariant c.loop-k-test.true c.from.ensures
    to_is c.push.ensures next_arc

pub returns : goal.returns
returns c = sending_last c.requires.ready c.args.c c.args.b c.requires.is_process c.loop-k.invariant c.loop-k-test.false
