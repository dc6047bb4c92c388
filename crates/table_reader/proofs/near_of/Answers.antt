-- `table_reader::near_of` meets its contract, by the chain that it is asked for.
use Rattle.tables.specs.Table.{near}
use Rattle.table_reader.proofs.near_of.Goals as goal

pub returns-in-Out : goal.returns-in-Out
unfolding near
returns-in-Out c = rw c.in-Out.is

pub returns-in-In : goal.returns-in-In
unfolding near
returns-in-In c = rw c.in-In.is
