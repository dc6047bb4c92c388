-- `table_reader::next_of` meets its contract, by the chain that it is asked for.
use Rattle.tables.specs.Table.{next}
use Rattle.table_reader.proofs.next_of.Goals as goal

pub returns-in-Out : goal.returns-in-Out
unfolding next
returns-in-Out c = rw c.in-Out.is

pub returns-in-In : goal.returns-in-In
unfolding next
returns-in-In c = rw c.in-In.is
