-- `lenses::tested::Tested::process` meets its contract: the words of the record stand inside the area, and those in use are read.
use Rattle.std.proofs.Common.{◌∙◌}
use Rattle.lenses.proofs.Stores.{record_asks, record_within, record_counts, read_process}
use Rattle.lenses.proofs.tested.Tested.process.Goals as goal

pub record_start-requires-clause-sizes_right : goal.record_start-requires-clause-sizes_right
record_start-requires-clause-sizes_right c = (record_asks c.args.self.ready c.requires).0

pub record_start-requires-clause-process : goal.record_start-requires-clause-process
record_start-requires-clause-process c = (record_asks c.args.self.ready c.requires).1

pub record_at-requires-clause-record_used_in_bounds : goal.record_at-requires-clause-record_used_in_bounds
record_at-requires-clause-record_used_in_bounds c =
    record_within c.args.self.ready c.requires c.record_start.ensures

pub record_at-requires-clause-counted : goal.record_at-requires-clause-counted
record_at-requires-clause-counted c =
    record_counts c.args.self.ready c.requires c.record_start.ensures

pub returns : goal.returns
returns c = c.record_at.ensures ∙ read_process c.args.self.ready c.requires c.record_start.ensures
