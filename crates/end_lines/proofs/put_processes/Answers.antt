-- `end_lines::put_processes` meets its contract. The loop's invariant: the lines of the processes before p are put.
use Rattle.std.proofs.Common.{arith}
use Rattle.areas.specs.Area.{run_in}
use Rattle.lenses.specs.ReadyLaws.{ready_n, ready_sizes}
use Rattle.end_lines.proofs.Rows.{rows_first, rows_next, rows_room, rows_all}
use Rattle.end_lines.proofs.put_processes.Goals as goal

pub loop-p-init : goal.loop-p-init
loop-p-init c = (omega arith, rows_first (run_in c.args.area.words.now))

pub overflow_cast-p : goal.overflow_cast-p
overflow_cast-p c = omega (arith, (ready_sizes c.args.area.ready).0)

pub put_process-requires : goal.put_process-requires
put_process-requires c =
    let n = ready_n c.args.area.ready in
    rows_room (run_in c.args.area.words.now) _ c.loop-p.auto.p c.loop-p.invariant.1 c.process.ensures (omega (arith, c.loop-p-test.true, n)) c.requires

pub loop-p-preserved : goal.loop-p-preserved
loop-p-preserved c =
    (omega arith, rows_next (run_in c.args.area.words.now) _ c.loop-p.auto.p c.loop-p.invariant.1 c.process.ensures c.put_process.ensures)

pub returns : goal.returns
returns c = rows_all _ _ _ (ready_n c.args.area.ready) (omega (arith, c.loop-p-test.false)) c.loop-p.invariant.0 c.loop-p.invariant.1

pub returns-2 : goal.returns-2
returns-2 c =
    let last = rows_next (run_in c.args.area.words.now) _ c.loop-p.auto.p c.loop-p.invariant.1 c.process.ensures c.put_process.ensures in
    rows_all _ _ _ (ready_n c.args.area.ready) (omega arith) (omega arith) last
