-- What start and every accepted delivery keep in any check that spreads by probes and ends by acknowledgements; and what a check proves of
-- its own start and step for that. w are the waits, s the start; i and j run over the processes 1 to N.
--   Quota P               == how many probes i, with its record, may have sent to j
--   Near quota w          == probes go to neighbours alone
--   Begins ρ quota w s    == what is asked of the start
--   Counted ρ quota w s a b m x t   == what is asked of the step of b, with record x, on message m from a, which leaves t
--   FatherFrom ρ s a b x t   == the father becomes a, or stays, and then a busy process was busy before
--   FatherKept ρ x t      == a busy process keeps its father
--   Diffusing ρ quota w s r   == each num counts the probes that are not acknowledged yet, and no pair has more than its quota
--   Leads ρ w s r j       == fathers lead from j to the start, over busy processes alone
--   Treed ρ w s r         == every busy process leads to the start
-- Assumes nothing.
use Rattle.std.specs.Prelude.{ℕ, ◌+◌, ◌≤◌, true, ◌≡◌, ◌⊎◌, eqb}
use Rattle.base.specs.Sums.{sum_to, spot}
use Rattle.tables.specs.Waits.{Waits, neighbours}
use Rattle.tables.specs.Table.{IsProcess}
use Rattle.machine.specs.Machine.{Machine, Left, Rules}
use Rattle.machine.specs.Weights.{weight, probe_bit, ack_bit, heir_of, pending}

abbrev pub Quota : Type 0 → Type 0
Quota P = Waits → ℕ → ℕ → P → ℕ

abbrev pub Near : {P : Type 0} → Quota P → Waits → Type 0
Near {P} quota w = (i j : ℕ) (x : P) → 1 ≤ quota w i j x → neighbours w i j ≡ true

pub record Begins {P M : Type 0} (ρ : Rules P M) (quota : Quota P) (w : Waits) (s : ℕ) : Type 0 where
  pub num : ρ.num (ρ.first w s) ≡ sum_to w.n (λ q. weight (probe_bit ρ) (ρ.first_to w s q))
  pub probes : (q : ℕ) → weight (ack_bit ρ) (ρ.first_to w s q) ≡ 0
  pub pair : (q : ℕ) → weight (probe_bit ρ) (ρ.first_to w s q) ≤ quota w s q (ρ.first w s)
  pub idle : ρ.num ρ.idle ≡ 0
  pub father_first : ρ.father (ρ.first w s) ≡ 0
  pub father_idle : ρ.father ρ.idle ≡ 0

-- the father becomes a, or stays, and then a busy process was busy before
abbrev pub FatherFrom : {P M : Type 0} → Rules P M → ℕ → ℕ → ℕ → P → Left P M → Type 0
FatherFrom ρ s a b x t =
    (ρ.father t.process ≡ a) ⊎
    ((ρ.father t.process ≡ ρ.father x) × ((b ≡ s → ⊥) → 1 ≤ ρ.num t.process → 1 ≤ ρ.num x))

pub record Counted {P M : Type 0} (ρ : Rules P M) (quota : Quota P) (w : Waits) (s a b : ℕ) (m : M) (x : P) (t : Left P M) : Type 0 where
  -- num gains the probes sent and loses the acknowledgement received
  pub num : ρ.num t.process + ack_bit ρ m ≡ ρ.num x + sum_to w.n (λ q. weight (probe_bit ρ) (t.sent q))
  -- a probe from a becomes an acknowledgement to a, or makes a the father; a father is acknowledged when num falls to 0
  pub heir : (q : ℕ) → heir_of ρ (eqb b s) t.process q + weight (ack_bit ρ) (t.sent q) ≡ heir_of ρ (eqb b s) x q + spot a (probe_bit ρ m) q
  pub pair : (q : ℕ) → quota w b q x + weight (probe_bit ρ) (t.sent q) ≤ quota w b q t.process
  pub father : FatherFrom ρ s a b x t

abbrev pub FatherKept : {P M : Type 0} → Rules P M → P → Left P M → Type 0
FatherKept ρ x t = 1 ≤ ρ.num x → ρ.father t.process ≡ ρ.father x

pub record Diffusing {P M : Type 0} (ρ : Rules P M) (quota : Quota P) (w : Waits) (s : ℕ) (r : Machine P M) : Type 0 where
  pub num : (i : ℕ) → IsProcess w.n i → ρ.num (r.process i) ≡ sum_to w.n (λ j. pending ρ s r i j)
  pub pair : (i j : ℕ) → IsProcess w.n i → IsProcess w.n j → pending ρ s r i j ≤ quota w i j (r.process i)
  pub father_in : (j : ℕ) → IsProcess w.n j → (j ≡ s → ⊥) → 1 ≤ ρ.num (r.process j) → IsProcess w.n (ρ.father (r.process j))
  pub fathers : (j : ℕ) → IsProcess w.n j → (ρ.father (r.process j) ≡ 0) ⊎ (neighbours w j (ρ.father (r.process j)) ≡ true)

pub data Leads {P M : Type 0} (ρ : Rules P M) (w : Waits) (s : ℕ) (r : Machine P M) : ℕ → Type 0 where
  at_the_start : {j : ℕ} → ρ.father (r.process j) ≡ s → Leads ρ w s r j
  over_busy : {j : ℕ} → IsProcess w.n (ρ.father (r.process j)) → (ρ.father (r.process j) ≡ s → ⊥) →
      1 ≤ ρ.num (r.process (ρ.father (r.process j))) → Leads ρ w s r (ρ.father (r.process j)) → Leads ρ w s r j

pub record Treed {P M : Type 0} (ρ : Rules P M) (w : Waits) (s : ℕ) (r : Machine P M) : Type 0 where
  pub leads : (j : ℕ) → IsProcess w.n j → (j ≡ s → ⊥) → 1 ≤ ρ.num (r.process j) → Leads ρ w s r j
