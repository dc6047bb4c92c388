-- `rows::fill_chain` meets its contract. The loop's invariant is `Going`: the arcs passed are put in. The measure is how many are left.
use Rattle.std.proofs.Common.{ℕ, ◌≤◌, List, ℤ, ◌≡◌, arith}
use Rattle.tables.specs.declared.Chain.{Chain}
use Rattle.tables.specs.Table.{most_processes, arc_at}
use Rattle.tables.specs.Chains.{far}
use Rattle.areas.specs.Area.{fields_in}
use Rattle.tables.specs.declared.Sizes.{Sizes}
use Rattle.lenses.specs.Ready.{Ready}
use Rattle.lenses.specs.ReadyLaws.{ready_sizes}
use Rattle.lenses.proofs.ChainWalks.{Ahead, left_on, far_is, next_is, ready_right, ready_process, ahead_arc, ahead_far}
use Rattle.rows.proofs.Cells.{place_is, place_low}
use Rattle.rows.proofs.Fills.{going_first, far_old, going_on, going_end}
use Rattle.rows.proofs.fill_chain.Goals as goal

-- the far end of an arc that is met stands in a row
far_low : {w : List ℤ} {z : Sizes} (y : Ready w z) {c : Chain} {b k q : ℕ} → Ahead c (fields_in w) b k → q ≡ far c (arc_at (fields_in w) k) → q ≤ most_processes
far_low y h e = omega (arith, e, ahead_far y h, ready_sizes y)

pub loop-k-init : goal.loop-k-init
loop-k-init c =
    going_first (ready_right c.args.area.ready) (ready_process c.args.area.ready c.requires.is_process) c.requires.row_length c.first-k.ensures

pub cell_of-cell-requires : goal.cell_of-cell-requires
cell_of-cell-requires c =
    let here = left_on (ready_right c.args.area.ready) c.loop-k.k c.loop-k.invariant.here c.loop-k-test.true in
    let far_at = far_is c.args.c (fields_in c.args.area.words.now) c.loop-k.k c.arc-arc.ensures c.far_of-q.ensures in
    let low = far_low c.args.area.ready here far_at in
    omega (arith, low, c.loop-k.invariant.long)

pub link_start-requires : goal.link_start-requires
link_start-requires c =
    let here = left_on (ready_right c.args.area.ready) c.loop-k.k c.loop-k.invariant.here c.loop-k-test.true in
    let a = ahead_arc c.args.area.ready here in
    let s = ready_sizes c.args.area.ready in record { sizes_right = s; arc = (a.0, omega arith) }

pub with_arc-requires : goal.with_arc-requires
with_arc-requires c =
    let here = left_on (ready_right c.args.area.ready) c.loop-k.k c.loop-k.invariant.here c.loop-k-test.true in
    let far_at = far_is c.args.c (fields_in c.args.area.words.now) c.loop-k.k c.arc-arc.ensures c.far_of-q.ensures in
    let a = ahead_arc c.args.area.ready here in
    let old = far_old (ready_right c.args.area.ready) c.loop-k.invariant c.loop-k-test.true far_at in
    record {
      inside = place_low c.args.area.ready c.loop-k.k c.link_start.ensures a.0 a.1;
      has_room = omega (arith, c.cell_of-cell.ensures.is, old, c.requires.room _ (far_low c.args.area.ready here far_at));
    }

pub offset_bounds-row-q : goal.offset_bounds-row-q
offset_bounds-row-q c =
    let here = left_on (ready_right c.args.area.ready) c.loop-k.k c.loop-k.invariant.here c.loop-k-test.true in
    let far_at = far_is c.args.c (fields_in c.args.area.words.now) c.loop-k.k c.arc-arc.ensures c.far_of-q.ensures in
    let low = far_low c.args.area.ready here far_at in
    omega (arith, low)

pub bounds-row-q : goal.bounds-row-q
bounds-row-q c =
    let here = left_on (ready_right c.args.area.ready) c.loop-k.k c.loop-k.invariant.here c.loop-k-test.true in
    let far_at = far_is c.args.c (fields_in c.args.area.words.now) c.loop-k.k c.arc-arc.ensures c.far_of-q.ensures in
    let low = far_low c.args.area.ready here far_at in
    omega (arith, low)

pub loop-k-smaller : goal.loop-k-smaller
loop-k-smaller c =
    let here = left_on (ready_right c.args.area.ready) c.loop-k.k c.loop-k.invariant.here c.loop-k-test.true in
    rw (next_is c.args.c (fields_in c.args.area.words.now) c.loop-k.k c.arc-arc.ensures c.next_of-k.ensures)
    (omega (arith, here.less))

pub loop-k-preserved : goal.loop-k-preserved
loop-k-preserved c =
    let far_at = far_is c.args.c (fields_in c.args.area.words.now) c.loop-k.k c.arc-arc.ensures c.far_of-q.ensures in
    let k = c.loop-k.k in
    going_on (ready_right c.args.area.ready) c.loop-k.invariant c.loop-k-test.true
    far_at
    c.cell_of-cell.ensures.is
    (place_is c.args.area.ready k c.link_start.ensures)
    c.with_arc.ensures
    (next_is c.args.c (fields_in c.args.area.words.now) k c.arc-arc.ensures c.next_of-k.ensures)

pub returns : goal.returns
returns c = going_end (ready_right c.args.area.ready) c.loop-k.invariant c.loop-k-test.false
