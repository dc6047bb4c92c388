use Rattle.std.proofs.Common.{◌+◌, ◌-◌, ◌≤◌, true, ◌≡◌}
use Rattle.base.specs.Sums.{all_to}
use Rattle.region_tests.specs.RegionTests.{record_test}
use Rattle.region_tests.proofs.Region.are_records.Given as goal

abbrev pub invariant-loop-p : goal.invariant-loop-p
invariant-loop-p l = (1 ≤ l.p) × (l.p ≤ l.self.sizes.n + 1) × (all_to (l.p - 1) (record_test l.self.words.now) ≡ true)
