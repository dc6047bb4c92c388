use Rattle.std.proofs.Common.{ℕ, ◌-◌, ◌≤◌, Bool, true, List, ◌≡◌, ℤ, length}
use Rattle.base.specs.Sums.{all_to}
use Rattle.area_tests.specs.AreaTests.{most_bytes, field_test}
use Rattle.area_tests.specs.Testing.{CopiedTo}
use Rattle.area_tests.proofs.testing.fields_to_bytes.Given as goal

-- the test of the field with the number j - 1
abbrev pub field : List ℤ → ℕ → Bool
field w j = field_test w (j - 1)

abbrev pub invariant-loop-j : goal.invariant-loop-j
invariant-loop-j l = (l.j ≤ l.count) × (length l.table ≡ most_bytes) × (l.right ≡ all_to l.j (field l.area)) × (l.right ≡ true → CopiedTo l.area l.j l.table)
