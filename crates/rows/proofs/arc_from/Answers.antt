-- `rows::arc_from` meets its contract. The loop's invariant is `Sought`: the arc is still ahead. The measure is how many arcs are left.
use Rattle.std.proofs.Common.{◌≡◌, ap, sym, ◌∙◌, arith}
use Rattle.tables.specs.declared.Arc.{Arc}
use Rattle.tables.specs.declared.Chain.TheVariants.{In}
use Rattle.tables.specs.Table.{arc_at}
use Rattle.areas.specs.Area.{fields_in}
use Rattle.lenses.proofs.ChainWalks.{Ahead, left_on, next_is, ready_right, ready_process}
use Rattle.rows.proofs.Searches.{sought_first, sought_next, sought_here, sought_none}
use Rattle.rows.proofs.arc_from.Goals as goal

pub loop-k-init : goal.loop-k-init
loop-k-init c =
    sought_first (ready_right c.args.area.ready) (ready_process c.args.area.ready c.requires.a_is_process) (ready_process c.args.area.ready c.requires.b_is_process) c.first-k.ensures

pub returns-then-arc-a : goal.returns-then-arc-a
returns-then-arc-a c =
    let from_is : c.arc-arc.result.from ≡ (arc_at (fields_in c.args.area.words.now) c.loop-k.k).from = ap (λ (x : Arc). x.from) c.arc-arc.ensures in
    sought_here (ready_right c.args.area.ready) c.loop-k.invariant c.loop-k-test.true (sym from_is ∙ c.if-arc-a.true)

pub loop-k-smaller : goal.loop-k-smaller
loop-k-smaller c =
    let here : Ahead In (fields_in c.args.area.words.now) c.args.b c.loop-k.k = left_on (ready_right c.args.area.ready) c.loop-k.k c.loop-k.invariant.here c.loop-k-test.true in
    rw (next_is In (fields_in c.args.area.words.now) c.loop-k.k c.arc-arc.ensures c.next_of-k.ensures) (omega (arith, here.less))

pub loop-k-preserved : goal.loop-k-preserved
loop-k-preserved c =
    let from_is : c.arc-arc.result.from ≡ (arc_at (fields_in c.args.area.words.now) c.loop-k.k).from = ap (λ (x : Arc). x.from) c.arc-arc.ensures in
    rw (next_is In (fields_in c.args.area.words.now) c.loop-k.k c.arc-arc.ensures c.next_of-k.ensures)
    (sought_next (ready_right c.args.area.ready) c.loop-k.invariant c.loop-k-test.true (λ z. c.if-arc-a.false (from_is ∙ z)))

pub returns : goal.returns
returns c = sought_none (ready_right c.args.area.ready) c.loop-k.invariant c.loop-k-test.false
