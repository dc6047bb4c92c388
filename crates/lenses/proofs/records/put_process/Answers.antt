-- `lenses::records::put_process` meets its contract: the record stands inside the area, a father is a process, and the stores leave the area with
-- that record in it.
use Rattle.std.proofs.Common.{◌∙◌}
use Rattle.areas.specs.Area.{run_in}
use Rattle.lenses.specs.ReadyLaws.{right_storable}
use Rattle.lenses.specs.ChangeLaws.{father_few}
use Rattle.lenses.proofs.Stores.{record_asks, record_within, store_process}
use Rattle.lenses.proofs.records.put_process.Goals as goal

pub record_start-k-requires-clause-sizes_right : goal.record_start-k-requires-clause-sizes_right
record_start-k-requires-clause-sizes_right c = (record_asks c.requires.ready c.requires.is_process).0

pub record_start-k-requires-clause-process : goal.record_start-k-requires-clause-process
record_start-k-requires-clause-process c = (record_asks c.requires.ready c.requires.is_process).1

pub put_record-requires-clause-record_used_in_bounds : goal.put_record-requires-clause-record_used_in_bounds
put_record-requires-clause-record_used_in_bounds c = record_within c.requires.ready c.requires.is_process c.record_start-k.ensures

pub put_record-requires-clause-father_le_most_processes : goal.put_record-requires-clause-father_le_most_processes
put_record-requires-clause-father_le_most_processes c =
    let a = c.args in
    father_few (run_in a.area.now).waits (right_storable a.area.now c.requires.ready.right).sound a.p a.x c.requires.father_right

pub returns : goal.returns
returns c = c.put_record.ensures ∙ store_process c.requires.ready c.requires.is_process c.record_start-k.ensures c.args.x
