use Rattle.std.proofs.Common.{ℕ, ◌+◌, ◌≤◌, ◌<◌}
use Rattle.tables.specs.Table.{Fields, field_of}
use Rattle.table_reader.specs.Inner.{LastMet, Distinct}
use Rattle.table_reader.proofs.arcs_unlike.Given as goal

-- no two arcs of a process before p agree in both ends
abbrev pub DistinctBefore : Fields → ℕ → Type 0
DistinctBefore t p = (q : ℕ) → 1 ≤ q → q < p → Distinct t q

abbrev pub invariant-loop-p : goal.invariant-loop-p
invariant-loop-p l = (l.p ≤ l.sizes.n + 1) × LastMet l.p l.last × DistinctBefore (field_of l.s) l.p
