-- `reports::escape_of` meets its contract. The loop's invariant: what was found is the lowest way out of the processes passed.
use Rattle.std.proofs.Common.{◌+◌, arith}
use Rattle.areas.specs.Area.{run_in}
use Rattle.lenses.specs.ReadyLaws.{ready_n, ready_sizes}
use Rattle.reports.specs.ReportLaws.{escape_first, escape_next, escape_last}
use Rattle.reports.proofs.escape_of.Goals as goal

pub loop-p-init : goal.loop-p-init
loop-p-init c = (omega arith, omega arith, escape_first (run_in c.args.area.words.now))

pub overflow_cast-p : goal.overflow_cast-p
overflow_cast-p c = omega (arith, (ready_sizes c.args.area.ready).0)

pub loop-p-preserved : goal.loop-p-preserved
loop-p-preserved c =
    let l = c.loop-p in (
      omega arith,
      omega arith,
      escape_next (run_in c.args.area.words.now) l.p l.invariant.0 l.found _ c.process.result l.invariant.2 c.process.ensures
          c.way_out-found.ensures,
    )

pub returns : goal.returns
returns c =
    let l = c.loop-p in
    escape_last (run_in c.args.area.words.now) _ l.p l.found (ready_n c.args.area.ready) (omega arith) l.invariant.2

pub returns-2 : goal.returns-2
returns-2 c =
    let r = run_in c.args.area.words.now in
    let l = c.loop-p in
    escape_last r _ (l.p + 1) c.way_out-found.result (ready_n c.args.area.ready) (omega arith)
    (escape_next r l.p l.invariant.0 l.found _ c.process.result l.invariant.2 c.process.ensures c.way_out-found.ensures)
