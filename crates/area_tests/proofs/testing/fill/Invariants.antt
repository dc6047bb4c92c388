use Rattle.std.proofs.Common.{◌+◌, ◌-◌, ◌≤◌}
use Rattle.tables.specs.Table.{field_of}
use Rattle.region_tests.specs.Waiting.{SetsAre}
use Rattle.region_tests.specs.WaitingLaws.{first_arcs}
use Rattle.area_tests.proofs.testing.fill.Given as goal

abbrev pub invariant-loop-k : goal.invariant-loop-k
invariant-loop-k l = (1 ≤ l.k) × (l.k ≤ l.sizes.m + 1) × SetsAre (first_arcs (field_of l.table) (l.k - 1)) l.waits
