use Rattle.std.proofs.Common.{true, ◌≡◌}
use Rattle.base.specs.Sums.{all_to}
use Rattle.table_writer.specs.Writing.{unlike}
use Rattle.table_writer.proofs.Unlike.{SeenPairs}
use Rattle.table_writer.proofs.all_unlike.Given as goal

abbrev pub invariant-loop-from : goal.invariant-loop-from
invariant-loop-from l = (all_to l.from-index (unlike l.list) ≡ true) × SeenPairs l.list l.from-index l.seen
