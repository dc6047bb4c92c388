-- Both sums of a process, in the words of its record.
--   sums_small   == sums in range are a cs and a second sum in range
-- Assumes nothing.
use Rattle.std.specs.Prelude.{true, ◌≡◌}
use Rattle.steps.specs.declared.Process.{Process}
use Rattle.steps.specs.Step.{small, both_small, sums_of}
use Rattle.steps.proofs.Counts.{both_small_parts}

pub sums_small : (x : Process) → both_small (sums_of x) ≡ true → (small x.cs ≡ true) × (small x.second ≡ true)
sums_small x e = both_small_parts (sums_of x) e
