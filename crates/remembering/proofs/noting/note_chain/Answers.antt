-- `remembering::noting::note_chain` meets its contract. The loop's invariant: whatever marks the array held, it holds them and those of the far ends
-- that were passed, and no other (`Sent`). The measure is the number of arcs to come.
use Rattle.std.proofs.Common.{arith}
use Rattle.areas.specs.Area.{fields_in}
use Rattle.lenses.specs.ReadyLaws.{right_storable}
use Rattle.lenses.proofs.ChainWalks.{left_first, left_on, ready_right, ready_process, ahead_far, far_is, next_is}
use Rattle.remembering.proofs.Following.{process_most, sent_first, sent_next, sent_last}
use Rattle.remembering.proofs.noting.note_chain.Goals as goal

pub loop-k-init : goal.loop-k-init
loop-k-init c =
    let y = c.args.area.ready in
    let own = ready_process y c.requires in
    (rw c.first-k.ensures (left_first (ready_right y) own), λ before h. sent_first (ready_right y) before own c.first-k.ensures h)

pub mark-requires : goal.mark-requires
mark-requires c =
    let y = c.args.area.ready in
    let h = left_on (ready_right y) c.loop-k.k c.loop-k.invariant.0 c.loop-k-test.true in
    let e = far_is c.args.c (fields_in c.args.area.words.now) c.loop-k.k c.arc-arc.ensures c.far_of.ensures in
    record { sender = process_most y c.requires; receiver = rw e (process_most y (ahead_far y h)) }

pub loop-k-smaller : goal.loop-k-smaller
loop-k-smaller c =
    let h = left_on (ready_right c.args.area.ready) c.loop-k.k c.loop-k.invariant.0 c.loop-k-test.true in
    rw (next_is c.args.c (fields_in c.args.area.words.now) c.loop-k.k c.arc-arc.ensures c.next_of-k.ensures) (omega (arith, h.less))

pub loop-k-preserved : goal.loop-k-preserved
loop-k-preserved c =
    let t = fields_in c.args.area.words.now in
    let g = ready_right c.args.area.ready in
    let e = far_is c.args.c t c.loop-k.k c.arc-arc.ensures c.far_of.ensures in
    let here = left_on g c.loop-k.k c.loop-k.invariant.0 c.loop-k-test.true in
    rw (next_is c.args.c t c.loop-k.k c.arc-arc.ensures c.next_of-k.ensures)
    (here.onward, λ before h. sent_next g before (c.loop-k.invariant.1 before h) c.loop-k-test.true e c.mark.ensures)

pub returns : goal.returns
returns c =
    let y = c.args.area.ready in
    let f = right_storable c.args.area.words.now y.right in
    λ before h. sent_last (ready_right y) before f.held.waits f.sound (c.loop-k.invariant.1 before h) c.loop-k-test.false
