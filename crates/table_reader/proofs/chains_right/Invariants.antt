use Rattle.std.proofs.Common.{◌+◌, ◌-◌, ◌≤◌, ◌≡◌}
use Rattle.tables.specs.Table.{field_of}
use Rattle.tables.specs.Reading.{left, walked_to}
use Rattle.table_reader.proofs.chains_right.Given as goal

abbrev pub invariant-loop-p : goal.invariant-loop-p
invariant-loop-p l = (l.p ≤ l.sizes.n + 1) × (walked_to l.c (field_of l.s) (l.p - 1) ≡ left l.arcs)
