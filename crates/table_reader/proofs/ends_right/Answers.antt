-- `table_reader::ends_right` meets its contract: before number k each number passed the test, and a test that fails decides it.
use Rattle.std.proofs.Common.{sym, arith}
use Rattle.base.specs.PrefixLaws.{all_to_stop, all_to_end}
use Rattle.table_reader.proofs.Checks.{ends_right_from, ends_right_to, ends_right_both}
use Rattle.table_reader.proofs.ends_right.Goals.{then-not-is_process-via-then-not-is_process, then-not-is_process-via-else-not-is_process+then-not-is_process-2}
use Rattle.table_reader.proofs.ends_right.Goals as goal

pub returns-then-not-is_process : goal.returns-then-not-is_process
returns-then-not-is_process c =
    let processes = c.requires.holds_table.processes in
    sym (all_to_stop _ c.loop-k.k _ (omega arith) (omega arith)
    (elim c.then-not-is_process.branch [
      | then-not-is_process-via-then-not-is_process w ↦ ends_right_from _ _ _ _ processes c.arc_at-a.ensures w.if-not-is_process.ensures
      | then-not-is_process-via-else-not-is_process+then-not-is_process-2 w ↦
          ends_right_to _ _ _ _ processes c.arc_at-a.ensures w.if-not-is_process.ensures w.if-not-is_process-2.ensures
    ]))

pub returns-else-not-is_process-2 : goal.returns-else-not-is_process-2
returns-else-not-is_process-2 c =
    sym (all_to_end _ _ _ c.loop-k.auto.k (omega arith) c.loop-k.invariant.1
    (ends_right_both _ _ _ _ c.requires.holds_table.processes c.arc_at-a.ensures c.if-not-is_process.ensures c.if-not-is_process-2.ensures))
