-- How often a number stands in a list, and sums over a list.
--   occ k ks       == how often k stands in the list ks
--   sum_over ks g   == the sum of g over the list ks
--   InRange ks m   == each member of ks is 1 to m
--   Standing k ks, StandingTwice k ks   == a place, or two places, at which k stands
-- Assumes nothing.
use Rattle.std.specs.Prelude.{ℕ, ◌+◌, ◌≤◌, ◌<◌, List, [], ◌∷◌, ◌≡◌, eqb, length, get_or}
use Rattle.base.specs.Choice.{bit}

unfoldable pub occ : ℕ → List ℕ → ℕ
occ k [] = 0
occ k (x ∷ xs) = bit (eqb x k) + occ k xs

unfoldable pub sum_over : List ℕ → (ℕ → ℕ) → ℕ
sum_over [] g = 0
sum_over (x ∷ xs) g = g x + sum_over xs g

abbrev pub InRange : List ℕ → ℕ → Type 0
InRange ks m = (k : ℕ) → 1 ≤ occ k ks → (1 ≤ k) × (k ≤ m)

-- k stands in the list, at a place
pub record Standing (k : ℕ) (ks : List ℕ) : Type 0 where
  pub at : ℕ
  pub high : at < length ks
  pub is : get_or ks at 0 ≡ k

-- k stands at two places
pub record StandingTwice (k : ℕ) (ks : List ℕ) : Type 0 where
  pub at : ℕ
  pub later : ℕ
  pub order : at < later
  pub high : later < length ks
  pub is : get_or ks at 0 ≡ k
  pub again : get_or ks later 0 ≡ k
