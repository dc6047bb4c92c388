-- `remembering::filling::fill` meets its contract. The loop's invariant: the marks of the links that stand with an arc before k (`Filled`).
use Rattle.std.proofs.Common.{arith}
use Rattle.areas.specs.Area.{fields_in, run_in}
use Rattle.areas.specs.RunInLaws.{run_in_contained}
use Rattle.remembering.specs.FillLaws.{filled_next, filled_last}
use Rattle.remembering.proofs.Looking.{arc_ends, looked_along}
use Rattle.remembering.proofs.filling.fill.Goals as goal

pub look-requires-clause-ends : goal.look-requires-clause-ends
look-requires-clause-ends c = arc_ends c.args.area.ready {k = c.loop-k.k} (omega arith) c.arc-arc.ensures

pub look-requires-in-loop-k-clause-ends : goal.look-requires-in-loop-k-clause-ends
look-requires-in-loop-k-clause-ends c = let e = arc_ends c.args.area.ready {k = c.loop-k.k} (omega arith) c.arc-arc.ensures in (e.1, e.0)

pub loop-k-preserved : goal.loop-k-preserved
loop-k-preserved c =
    let w = c.args.area.words.now in (
      omega arith,
      omega arith,
      filled_next (fields_in w) (run_in w) c.loop-k.invariant.2
          (looked_along (run_in w) c.arc-arc.ensures c.look.ensures c.look-in-loop-k.ensures),
    )

pub returns : goal.returns
returns c =
    let w = c.args.area.words.now in
    filled_last (fields_in w) (run_in w) (run_in_contained w) (omega (arith, c.args.area.ready.m_is)) c.loop-k.invariant.2

pub returns-2 : goal.returns-2
returns-2 c =
    let w = c.args.area.words.now in
    filled_last (fields_in w) (run_in w) (run_in_contained w) (omega (arith, c.args.area.ready.m_is))
    (filled_next (fields_in w) (run_in w) c.loop-k.invariant.2 (looked_along (run_in w) c.arc-arc.ensures c.look.ensures c.look-in-loop-k.ensures))
