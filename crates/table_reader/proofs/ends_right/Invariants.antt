use Rattle.std.proofs.Common.{◌+◌, ◌-◌, ◌≤◌, true, ◌≡◌}
use Rattle.base.specs.Sums.{all_to}
use Rattle.tables.specs.Table.{field_of}
use Rattle.tables.specs.Reading.{ends_right}
use Rattle.table_reader.proofs.ends_right.Given as goal

abbrev pub invariant-loop-k : goal.invariant-loop-k
invariant-loop-k l = (l.k ≤ l.sizes.m + 1) × (all_to (l.k - 1) (ends_right (field_of l.s)) ≡ true)
