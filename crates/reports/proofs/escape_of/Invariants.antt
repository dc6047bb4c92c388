use Rattle.std.proofs.Common.{◌+◌, ◌-◌, ◌≤◌, ◌≡◌}
use Rattle.areas.specs.Area.{run_in}
use Rattle.reports.specs.Judging.{escape_to}
use Rattle.reports.proofs.escape_of.Given as goal

abbrev pub invariant-loop-p : goal.invariant-loop-p
invariant-loop-p l = (1 ≤ l.p) × (l.p ≤ l.area.sizes.n + 1) × (l.found ≡ escape_to (run_in l.area.words.now) (l.p - 1))
