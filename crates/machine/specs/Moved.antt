-- What a delivery does to a run, in weights: the one interface between the machine's definitions and all that is counted. It speaks of no
-- order of messages on a link, so taking a message from the middle of one satisfies it too.
--   Moved w r a b m t q   == q is r after the delivery of m from a to b, whose step left t
-- Assumes nothing.
use Rattle.std.specs.Prelude.{ℕ, ◌+◌, ◌≤◌, ◌≡◌}
use Rattle.base.specs.Sums.{spot}
use Rattle.tables.specs.Waits.{Waits}
use Rattle.machine.specs.Machine.{Machine, Left}
use Rattle.machine.specs.Weights.{weight, spot2}

pub record Moved {P M : Type 0} (w : Waits) (r : Machine P M) (a b : ℕ) (m : M) (t : Left P M) (q : Machine P M) : Type 0 where
  pub count : q.count ≡ r.count + 1
  pub others : (p : ℕ) → (p ≡ b → ⊥) → q.process p ≡ r.process p
  pub receiver : q.process b ≡ t.process
  -- the message waited on the link
  pub waited : (μ : M → ℕ) → μ m ≤ weight μ (r.link a b)
  -- for every weight and every link: what was taken off, and what the step put on
  pub weights : (μ : M → ℕ) (x y : ℕ) → weight μ (q.link x y) + spot2 a b (μ m) x y ≡ weight μ (r.link x y) + spot b (weight μ (t.sent y)) x
