use Rattle.std.proofs.Common.{◌≤◌}
use Rattle.tables.specs.Table.{field_of}
use Rattle.beginning.specs.Starting.{Copied}
use Rattle.beginning.proofs.copy_fields.Given as goal

abbrev pub invariant-loop-j : goal.invariant-loop-j
invariant-loop-j l = (l.j ≤ l.count) × Copied (field_of l.table) l.initial.area l.j l.area
