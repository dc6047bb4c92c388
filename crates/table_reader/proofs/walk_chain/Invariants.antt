use Rattle.std.proofs.Common.{◌≤◌, ◌≡◌}
use Rattle.tables.specs.Table.{field_of, m_of, first}
use Rattle.tables.specs.Reading.{walked}
use Rattle.table_reader.proofs.walk_chain.Given as goal

abbrev pub invariant-loop-k : goal.invariant-loop-k
invariant-loop-k l = (l.k ≤ m_of (field_of l.s)) × (walked l.c (field_of l.s) l.p l.arcs (first l.c (field_of l.s) l.p) ≡ walked l.c (field_of l.s) l.p l.l l.k)

abbrev pub decreases-loop-k : goal.decreases-loop-k
decreases-loop-k l = l.l
