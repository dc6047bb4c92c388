-- `table_reader::field` meets its contract.
use Rattle.std.proofs.Common.{rules}
use Rattle.tables.specs.Table.{field_of}
use Rattle.table_reader.proofs.field.Goals as goal

pub returns : goal.returns
unfolding field_of
returns c = search rules
