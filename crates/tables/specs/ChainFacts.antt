-- What laws of chains and of the test of row 6 speak of.
--   Onward c t k ks       == from arc k + 1 on the chain meets the arcs ks: that arc, and what follows from its next field
--   Rest c t j ks         == the rest of the chain ks from its arc j on
--   WalkedLeft c t p l k r   == a walk with l arcs left came to the end of p's chain with r left
--   ForeignAt c t p k     == a foreign arc, some steps after arc k
--   ManyAt c t p l k      == more than l arcs from arc k on, the first of which are p's own
-- Assumes nothing.
use Rattle.std.specs.Prelude.{ℕ, suc, ◌+◌, ◌≤◌, List, ◌∷◌, ◌≡◌, length}
use Rattle.tables.specs.declared.Chain.{Chain}
use Rattle.tables.specs.Table.{Fields, arc_at, near, next}
use Rattle.tables.specs.Chains.{Follows, steps, along, Own}

pub record Onward (c : Chain) (t : Fields) (k : ℕ) (ks : List ℕ) : Type 0 where
  pub rest : List ℕ
  pub is : ks ≡ suc k ∷ rest
  pub follows : Follows c t (next c (arc_at t (suc k))) rest

-- the rest of a chain from one of its arcs on
pub record Rest (c : Chain) (t : Fields) (j : ℕ) (ks : List ℕ) : Type 0 where
  pub arcs : List ℕ
  pub follows : Follows c t j arcs
  pub short : length arcs ≤ length ks

-- the walk came to the chain's end
pub record WalkedLeft (c : Chain) (t : Fields) (p l k r : ℕ) : Type 0 where
  pub follows : Follows c t k (along c t l k)
  pub count : length (along c t l k) + r ≡ l
  pub own : Own c t p (along c t l k)

-- a foreign arc, i steps on
abbrev pub ForeignAt : Chain → Fields → ℕ → ℕ → Type 0
ForeignAt c t p k = (i : ℕ) × (j : ℕ) × (steps c t k i ≡ suc j) × (near c (arc_at t (suc j)) ≡ p → ⊥)

-- more than l arcs, the first of which are p's own
abbrev pub ManyAt : Chain → Fields → ℕ → ℕ → ℕ → Type 0
ManyAt c t p l k = (length (along c t (suc l) k) ≡ suc l) × Own c t p (along c t (suc l) k)
