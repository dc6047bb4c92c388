use Rattle.std.proofs.Common.{◌+◌, ◌-◌, ◌≤◌, true, ◌≡◌}
use Rattle.base.specs.Sums.{all_to}
use Rattle.tables.specs.Table.{field_of}
use Rattle.tables.specs.Reading.{nexts_right}
use Rattle.table_reader.proofs.nexts_right.Given as goal

abbrev pub invariant-loop-k : goal.invariant-loop-k
invariant-loop-k l = (l.k ≤ l.sizes.m + 1) × (all_to (l.k - 1) (nexts_right (field_of l.s)) ≡ true)
