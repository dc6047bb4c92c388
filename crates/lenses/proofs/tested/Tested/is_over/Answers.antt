-- `lenses::tested::Tested::is_over` meets its contract: the word of num in the start's record is 0.
use Rattle.std.proofs.Common.{arith}
use Rattle.areas.proofs.Signs.{counts_read}
use Rattle.lenses.proofs.Stores.{record_asks}
use Rattle.lenses.proofs.Lookups.{start_right, start_within, start_counts, start_num}
use Rattle.machine.specs.Machine as Machines
use Rattle.lenses.proofs.tested.Tested.is_over.Goals as goal

pub record_start-record-requires-clause-sizes_right : goal.record_start-record-requires-clause-sizes_right
record_start-record-requires-clause-sizes_right c = (record_asks c.args.self.ready (start_right c.args.self.ready)).0

pub record_start-record-requires-clause-process : goal.record_start-record-requires-clause-process
record_start-record-requires-clause-process c = rw c.start-start.ensures (record_asks c.args.self.ready (start_right c.args.self.ready)).1

pub overflow_add-record : goal.overflow_add-record
overflow_add-record c = omega (arith, start_within c.args.self.ready c.start-start.ensures c.record_start-record.ensures)

pub offset_bounds-self-record : goal.offset_bounds-self-record
offset_bounds-self-record c = omega (arith, start_within c.args.self.ready c.start-start.ensures c.record_start-record.ensures)

pub bounds-self-record : goal.bounds-self-record
bounds-self-record c = omega (arith, start_within c.args.self.ready c.start-start.ensures c.record_start-record.ensures)

pub unsigned-requires : goal.unsigned-requires
unsigned-requires c = counts_read _ (omega arith) (start_counts c.args.self.ready c.start-start.ensures c.record_start-record.ensures)

pub returns : goal.returns
unfolding Machines.over
returns c = rw (start_num c.args.self.ready c.start-start.ensures c.record_start-record.ensures (omega arith) c.unsigned.ensures)
