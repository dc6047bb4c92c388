use Rattle.std.proofs.Common.{length}
use Rattle.tables.specs.Table.{field_of}
use Rattle.table_reader.proofs.Clashes.{to_go, Going}
use Rattle.table_reader.proofs.chain_unlike.Given as goal

abbrev pub invariant-loop-k : goal.invariant-loop-k
invariant-loop-k l = Going (field_of l.s) l.p l.k l.last

abbrev pub decreases-loop-k : goal.decreases-loop-k
decreases-loop-k l = length (to_go (field_of l.s) l.k)
