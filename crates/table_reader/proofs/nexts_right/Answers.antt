-- `table_reader::nexts_right` meets its contract: before number k each number passed the test, and a test that fails decides it.
use Rattle.std.proofs.Common.{sym, arith}
use Rattle.base.specs.PrefixLaws.{all_to_stop, all_to_end}
use Rattle.table_reader.proofs.Checks.{nexts_right_out, nexts_right_in, nexts_right_both}
use Rattle.table_reader.proofs.nexts_right.Goals.{then-a-sizes-via-then-a-sizes, then-a-sizes-via-else-a-sizes+then-a-sizes-2}
use Rattle.table_reader.proofs.nexts_right.Goals as goal

pub returns-then-a-sizes : goal.returns-then-a-sizes
returns-then-a-sizes c =
    let arcs = c.requires.holds_table.arcs in
    sym (all_to_stop _ c.loop-k.k _ (omega arith) (omega arith)
    (elim c.then-a-sizes.branch [
      | then-a-sizes-via-then-a-sizes w ↦ nexts_right_out _ _ _ _ arcs c.arc_at-a.ensures w.if-a-sizes.true
      | then-a-sizes-via-else-a-sizes+then-a-sizes-2 w ↦
          nexts_right_in _ _ _ _ arcs c.arc_at-a.ensures w.if-a-sizes.false w.if-a-sizes-2.true
    ]))

pub returns-else-a-sizes-2 : goal.returns-else-a-sizes-2
returns-else-a-sizes-2 c =
    sym (all_to_end _ _ _ c.loop-k.auto.k (omega arith) c.loop-k.invariant.1
    (nexts_right_both _ _ _ _ c.requires.holds_table.arcs c.arc_at-a.ensures c.if-a-sizes.false c.if-a-sizes-2.false))
