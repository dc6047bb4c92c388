-- Both sums are below 65521, so no sum wraps.
use Rattle.std.proofs.Common.{◌<◌}
use Rattle.table_vectors.proofs.checksum.Given as goal

abbrev pub invariant-loop-byte : goal.invariant-loop-byte
invariant-loop-byte l = (l.a < 65521) × (l.b < 65521)
