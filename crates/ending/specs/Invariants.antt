-- What start and every accepted delivery keep in a knot check, besides what any check keeps (machine, Diffusing). w are the waits, s the
-- start; i and j run over the processes 1 to N.
--   Tidy w s r        == the flags are 0 or 1, subordinate goes by them, the start has both
--   Worked w r        == every probe sent means two deliveries
--   Spread w s r      == probes go along the waits or against them, flags are set on reachable and reaching processes alone, and none is forgotten
--   Summed w s τ r    == all sums and counts of a tally together are what the processes add; their negative parts are bounded
--   Holds r           == every invariant of r, for its own waits, start and edition
-- Assumes nothing.
use Rattle.std.specs.Prelude.{ℕ, ◌+◌, ◌*◌, ◌≤◌, ◌≡◌, pos}
use Rattle.base.specs.Parts.{above, below}
use Rattle.tables.specs.Waits.{Waits}
use Rattle.tables.specs.Sound.{Sound}
use Rattle.tables.specs.Table.{IsProcess}
use Rattle.machine.specs.Weights.{total, sum_of, work}
use Rattle.machine.specs.Diffusing.{Treed}
use Rattle.steps.specs.Step.{new_subordinate}
use Rattle.steps.specs.Effect.{is_suc, is_pre}
use Rattle.checks.specs.Run.{Run, IsEdition, knot}
use Rattle.checks.specs.Reach.{Reaches}
use Rattle.ending.specs.Weights.{sends, Tally, subordinates, waitless, sum_in, count_in, worth_of, slack_of, Diffuses}
use Rattle.ending.specs.Spreading.{Side}

-- the flags of each process, and those of the start
pub record Tidy (w : Waits) (s : ℕ) (r : Run) : Type 0 where
  pub start_is_in : IsProcess w.n s
  pub succ_bit : (i : ℕ) → IsProcess w.n i → (r.process i).succeeding ≤ 1
  pub prec_bit : (i : ℕ) → IsProcess w.n i → (r.process i).preceding ≤ 1
  pub sub_is : (i : ℕ) → IsProcess w.n i → (r.process i).subordinate ≡ new_subordinate (r.process i)
  pub start_succ : (r.process s).succeeding ≡ 1
  pub start_prec : (r.process s).preceding ≡ 1

-- a probe is delivered, and its acknowledgement is
abbrev pub Worked : Waits → Run → Type 0
Worked w r = 2 * sends w r ≡ work knot w.n r

-- suc probes go along the waits and mark whom the start reaches; pre probes go against them and mark who reaches the start
pub record Spread (w : Waits) (s : ℕ) (r : Run) : Type 0 where
  pub sucs : Side w (λ x. x.succeeding) is_suc (λ i j. w.waits i j) (λ i. Reaches w s i) r
  pub pres : Side w (λ x. x.preceding) is_pre (λ i j. w.waits j i) (λ i. Reaches w i s) r

-- one sum of all processes and its counts in all messages, by their parts above and below zero
pub record Summed (w : Waits) (s : ℕ) (τ : Tally) (r : Run) : Type 0 where
  pub balance :
      sum_of w.n (λ x. above (sum_in τ x)) r + total w.n (λ m. above (count_in τ m)) r ≡
      sum_of w.n (λ x. below (sum_in τ x)) r + total w.n (λ m. below (count_in τ m)) r + worth_of τ w r
  pub at_rest : (j : ℕ) → IsProcess w.n j → (j ≡ s → ⊥) → (r.process j).num ≡ 0 → sum_in τ (r.process j) ≡ pos 0
  pub falls : sum_of w.n (λ x. below (sum_in τ x)) r + total w.n (λ m. below (count_in τ m)) r ≤ slack_of τ w r

-- those above, those of any check (Diffuses, Treed), that the waits are sound, and that the edition is one
pub record Holds (r : Run) : Type 0 where
  pub sound : Sound r.waits
  pub edition : IsEdition r.edition
  pub tidy : Tidy r.waits r.start r
  pub diffusing : Diffuses r.waits r.start r
  pub worked : Worked r.waits r
  pub treed : Treed knot r.waits r.start r
  pub spread : Spread r.waits r.start r
  pub summed : Summed r.waits r.start (subordinates r.start) r
  pub seconds : Summed r.waits r.start (waitless r.waits) r
