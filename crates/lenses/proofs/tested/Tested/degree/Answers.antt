-- `lenses::tested::Tested::degree` meets its contract. The loop's invariant: the arcs passed are counted. The measure is how many are left.
use Rattle.std.proofs.Common.{sym, ap, ◌∙◌, arith}
use Rattle.tables.specs.Waits.{Waits}
use Rattle.tables.specs.Chains.{degree}
use Rattle.areas.specs.Area.{fields_in}
use Rattle.areas.specs.RunInLaws.{run_in_contained}
use Rattle.lenses.specs.ReadyLaws.{ready_sizes}
use Rattle.lenses.proofs.ChainWalks.{left_on, next_is, ready_right, ready_process, counted_first, counted_on, counted_all}
use Rattle.lenses.proofs.tested.Tested.degree.Goals as goal

pub loop-k-init : goal.loop-k-init
loop-k-init c = counted_first (ready_right c.args.self.ready) (ready_process c.args.self.ready c.requires) c.first-k.ensures

pub overflow_add-d : goal.overflow_add-d
overflow_add-d c = omega (arith, c.loop-k.invariant.few, ready_sizes c.args.self.ready, c.args.self.ready.m_is)

pub loop-k-smaller : goal.loop-k-smaller
loop-k-smaller c =
    let k = c.loop-k.k in
    let h = left_on (ready_right c.args.self.ready) k c.loop-k.invariant.here c.loop-k-test.true in
    rw (next_is c.args.c (fields_in c.args.self.words.now) k c.arc.ensures c.next_of-k.ensures) (omega (arith, h.less))

pub loop-k-preserved : goal.loop-k-preserved
loop-k-preserved c =
    let k = c.loop-k.k in
    rw (next_is c.args.c (fields_in c.args.self.words.now) k c.arc.ensures c.next_of-k.ensures)
    (counted_on (ready_right c.args.self.ready) c.loop-k.invariant c.loop-k-test.true)

pub returns : goal.returns
returns c =
    counted_all (ready_right c.args.self.ready) c.loop-k.invariant c.loop-k-test.false
    ∙ ap (λ (v : Waits). degree c.args.c v c.args.b) (sym (run_in_contained c.args.self.words.now).waits)
