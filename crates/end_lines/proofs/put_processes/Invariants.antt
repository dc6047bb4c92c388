use Rattle.std.proofs.Common.{◌+◌, ◌≤◌}
use Rattle.areas.specs.Area.{run_in}
use Rattle.end_lines.proofs.Rows.{Rows}
use Rattle.end_lines.proofs.put_processes.Given as goal

abbrev pub invariant-loop-p : goal.invariant-loop-p
invariant-loop-p l = (l.p ≤ l.area.sizes.n + 1) × Rows (run_in l.area.words.now) l.p l.initial.page l.page
