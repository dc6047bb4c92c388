use Rattle.std.proofs.Common.{true, ◌≡◌}
use Rattle.base.specs.Sums.{all_to}
use Rattle.table_writer.specs.Writing.{ends_fit}
use Rattle.table_writer.proofs.ends_fit.Given as goal

abbrev pub invariant-loop-from : goal.invariant-loop-from
invariant-loop-from l = all_to l.from-index (ends_fit l.n l.list) ≡ true
