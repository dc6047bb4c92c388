use Rattle.std.proofs.Common.{◌+◌, ◌-◌, ◌≤◌, true, ◌≡◌}
use Rattle.base.specs.Sums.{all_to}
use Rattle.tables.specs.Table.{field_of}
use Rattle.tables.specs.Reading.{firsts_right}
use Rattle.table_reader.proofs.firsts_right.Given as goal

abbrev pub invariant-loop-p : goal.invariant-loop-p
invariant-loop-p l = (l.p ≤ l.sizes.n + 1) × (all_to (l.p - 1) (firsts_right (field_of l.s)) ≡ true)
