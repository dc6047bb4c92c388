use Rattle.std.proofs.Common.{◌+◌, ◌≤◌}
use Rattle.areas.specs.Area.{fields_in, run_in}
use Rattle.remembering.specs.FillLaws.{Filled}
use Rattle.remembering.proofs.filling.fill.Given as goal

abbrev pub invariant-loop-k : goal.invariant-loop-k
invariant-loop-k l = (1 ≤ l.k) × (l.k ≤ l.area.sizes.m + 1) × Filled (fields_in l.area.words.now) (run_in l.area.words.now) l.k l.memory
