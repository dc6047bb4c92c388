-- `table_reader::firsts_right` meets its contract: before number p each number passed the test, and a test that fails decides it.
use Rattle.std.proofs.Common.{sym, arith}
use Rattle.base.specs.PrefixLaws.{all_to_stop, all_to_end}
use Rattle.table_reader.proofs.Checks.{firsts_right_out, firsts_right_in, firsts_right_both}
use Rattle.table_reader.proofs.firsts_right.Goals.{then-first_of-sizes-via-then-first_of-sizes, then-first_of-sizes-via-else-first_of-sizes+then-first_of-sizes-2}
use Rattle.table_reader.proofs.firsts_right.Goals as goal

pub returns-then-first_of-sizes : goal.returns-then-first_of-sizes
returns-then-first_of-sizes c =
    let arcs = c.requires.holds_table.arcs in
    sym (all_to_stop _ c.loop-p.p _ (omega arith) (omega arith)
    (elim c.then-first_of-sizes.branch [
      | then-first_of-sizes-via-then-first_of-sizes w ↦ firsts_right_out _ _ _ _ arcs c.first_of.ensures w.if-first_of-sizes.true
      | then-first_of-sizes-via-else-first_of-sizes+then-first_of-sizes-2 w ↦
          firsts_right_in _ _ _ _ arcs c.first_of.ensures _ w.first_of-else-first_of-sizes.ensures w.if-first_of-sizes.false w.if-first_of-sizes-2.true
    ]))

pub returns-else-first_of-sizes-2 : goal.returns-else-first_of-sizes-2
returns-else-first_of-sizes-2 c =
    sym (all_to_end _ _ _ c.loop-p.auto.p (omega arith) c.loop-p.invariant.1
    (firsts_right_both _ _ _ _ c.requires.holds_table.arcs c.first_of.ensures _ c.first_of-else-first_of-sizes.ensures
    c.if-first_of-sizes.false c.if-first_of-sizes-2.false))
