-- What is counted of a run, for any check.
--   weight μ ms         == the sum of a weight μ over the messages of a list
--   probe_bit, ack_bit    == 1 for a probe, and 1 for an acknowledgement, 0 for any other message
--   spot2 a b v x y     == v at the pair (a, b), and 0 at every other
--   total n μ r         == the sum of a weight over all links of n processes
--   sum_of n f r         == the sum of f over n processes
--   heir root num father q   == 1 if a process that is not the start (root) is busy (its num is above 0) and q is its father
--   heir_of ρ root x q   == the same of a record
--   pending ρ s r i j   == how many probes from i to j are not acknowledged yet: on the way there, acknowledged on the way back, or with j,
--                          whose father i is
--   work ρ n r          == the deliveries made, the probes that wait, and all that processes wait for: each probe sent adds two
-- Assumes nothing.
use Rattle.std.specs.Prelude.{ℕ, ◌+◌, Bool, not, List, [], ◌∷◌, eqb}
use Rattle.base.specs.Choice.{choose, bit}
use Rattle.base.specs.Sums.{sum_to, spot}
use Rattle.machine.specs.Machine.{Machine, Rules}

module _ {M : Type 0} where
  unfoldable pub weight : (M → ℕ) → List M → ℕ
  weight μ [] = 0
  weight μ (m ∷ ms) = μ m + weight μ ms

unfoldable pub spot2 : ℕ → ℕ → ℕ → ℕ → ℕ → ℕ
spot2 a b v x y = spot a (spot b v y) x

module _ {P M : Type 0} where
  unfoldable pub total : ℕ → (M → ℕ) → Machine P M → ℕ
  total n μ r = sum_to n (λ a. sum_to n (λ b. weight μ (r.link a b)))

  unfoldable pub sum_of : ℕ → (P → ℕ) → Machine P M → ℕ
  sum_of n f r = sum_to n (λ p. f (r.process p))

unfoldable pub heir : Bool → ℕ → ℕ → ℕ → ℕ
heir root num father q = choose root 0 (choose (eqb num 0) 0 (spot father 1 q))

module _ {P M : Type 0} (ρ : Rules P M) where
  abbrev pub probe_bit : M → ℕ
  probe_bit m = bit (ρ.probe m)

  abbrev pub ack_bit : M → ℕ
  ack_bit m = bit (not (ρ.probe m))

  abbrev pub heir_of : Bool → P → ℕ → ℕ
  heir_of root x q = heir root (ρ.num x) (ρ.father x) q

  unfoldable pub pending : ℕ → Machine P M → ℕ → ℕ → ℕ
  pending s r i j = weight probe_bit (r.link i j) + weight ack_bit (r.link j i) + heir_of (eqb j s) (r.process j) i

  unfoldable pub work : ℕ → Machine P M → ℕ
  work n r = r.count + total n probe_bit r + sum_of n ρ.num r
