-- `ends_fit` is the test of its name over all pairs. The loop's invariant: the pairs passed fit.
use Rattle.std.proofs.Common.{◌+◌, sym, arith}
use Rattle.base.specs.PrefixLaws.{all_to_none, all_to_next, all_to_stop}
use Rattle.table_writer.proofs.ByPairs.{unfit_from, unfit_to, fit_both}
use Rattle.table_writer.proofs.ends_fit.Goals.{then-not-is_process-via-then-not-is_process, then-not-is_process-via-else-not-is_process+then-not-is_process-2}
use Rattle.table_writer.proofs.ends_fit.Goals as goal

pub loop-from-init : goal.loop-from-init
loop-from-init c = all_to_none _

pub returns-then-not-is_process : goal.returns-then-not-is_process
returns-then-not-is_process c =
    let pairs = c.pairs_of-from-items.ensures in
    sym (all_to_stop _ (c.loop-from.from-index + 1) _ (omega arith) (omega arith)
    (elim c.then-not-is_process.branch [
      | then-not-is_process-via-then-not-is_process w ↦ unfit_from pairs (omega arith) c.from.ensures _ w.if-not-is_process.ensures
      | then-not-is_process-via-else-not-is_process+then-not-is_process-2 w ↦
          unfit_to pairs (omega arith) c.from.ensures w.from-else-not-is_process.ensures _ w.if-not-is_process.ensures w.if-not-is_process-2.ensures
    ]))

pub loop-from-preserved : goal.loop-from-preserved
loop-from-preserved c =
    all_to_next _ _ c.loop-from.invariant
    (fit_both c.pairs_of-from-items.ensures (omega arith) c.from.ensures c.from-else-not-is_process.ensures _
    c.if-not-is_process.ensures c.if-not-is_process-2.ensures)
