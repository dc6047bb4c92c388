use Rattle.std.proofs.Common.{◌+◌, ◌-◌, ◌≤◌, true, ◌≡◌}
use Rattle.base.specs.Sums.{all_to}
use Rattle.region_tests.specs.RegionTests.{arc_test}
use Rattle.region_tests.proofs.Region.are_arcs.Given as goal

abbrev pub invariant-loop-k : goal.invariant-loop-k
invariant-loop-k l = (1 ≤ l.k) × (l.k ≤ l.self.sizes.m + 1) × (all_to (l.k - 1) (arc_test l.self.words.now) ≡ true)
