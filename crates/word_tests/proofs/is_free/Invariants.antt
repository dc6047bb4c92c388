use Rattle.std.proofs.Common.{ℕ, ◌+◌, ◌-◌, ◌≤◌, Bool, List, ◌≡◌, ℤ}
use Rattle.base.specs.Sums.{all_to}
use Rattle.word_tests.specs.WordTests.{is_free}
use Rattle.word_tests.proofs.is_free.Given as goal

-- the test of the word that stands j - 1 words after `from`
abbrev pub test : List ℤ → ℕ → ℕ → Bool
test w from j = is_free w (from + (j - 1))

abbrev pub invariant-loop-word : goal.invariant-loop-word
invariant-loop-word l = (l.word-index ≤ l.to - l.from) × (l.free ≡ all_to l.word-index (test l.area l.from))
