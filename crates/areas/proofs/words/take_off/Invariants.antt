use Rattle.std.proofs.Common.{ℕ, ◌+◌, ◌-◌, ◌≤◌, ◌<◌, List, ◌≡◌, ◌⊎◌, ℤ, pos, length, get_or}
use Rattle.areas.proofs.words.take_off.Given as goal

-- v is w with the words from i up to k moved down by one
pub record Moved (w v : List ℤ) (i k : ℕ) : Type 0 where
  pub long : length v ≡ length w
  pub moved : (j : ℕ) → i ≤ j → j < k → get_or v j (pos 0) ≡ get_or w (j + 1) (pos 0)
  pub kept : (j : ℕ) → (j < i) ⊎ (k ≤ j) → get_or v j (pos 0) ≡ get_or w j (pos 0)

abbrev pub invariant-loop-k : goal.invariant-loop-k
invariant-loop-k l = (l.i ≤ l.k) × (l.k ≤ l.last) × Moved l.initial.area l.area l.i l.k

abbrev pub decreases-loop-k : goal.decreases-loop-k
decreases-loop-k l = l.last - l.k
