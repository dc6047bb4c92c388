-- Chains as lists, for whoever walks them.
--   Follows c t k ks   == from arc k on, the chain meets exactly the arcs ks and then ends
--   steps c t k i      == the arc that the chain meets i steps after arc k, 0 past its end
--   along c t l k      == the arcs that the chain meets from arc k on, at most l of them
--   met c t p          == the arcs that the chain of p meets, at most M of them
--   Own c t p ks       == each arc of the list ks belongs to p's chain
--   Listed c t p ks    == ks is the chain of p: it ends, and each arc stands in it once if its near end is p, and else not at all
--   Inside c t         == first and next fields are at most M, and the near ends of arcs are processes (rows 4 and 5 are not met)
--   far c a            == the end of an arc that does not belong to the chain's process: to on the out-chain, from on the in-chain
--   joins c w p q      == the chain of p has an arc whose far end is q: p waits for q on the out-chain, q for p on the in-chain
--   degree c w p       == how many processes the chain of p leads to
-- Assumes nothing.
use Rattle.std.specs.Prelude.{ℕ, zero, suc, ◌≤◌, Bool, List, [], ◌∷◌, ◌≡◌, eqb, length}
use Rattle.base.specs.Choice.{bit}
use Rattle.base.specs.Counts.{occ, InRange}
use Rattle.tables.specs.declared.Arc.{Arc}
use Rattle.tables.specs.declared.Chain.{Chain}
use Rattle.tables.specs.declared.Chain.TheVariants.{Out, In}
use Rattle.tables.specs.Table.{Fields, n_of, m_of, IsProcess, first, arc_at, near, next, follow}
use Rattle.tables.specs.Layout.{IsArc}
use Rattle.tables.specs.Waits.{Waits, out_degree, in_degree}

-- "The out-chain of p begins at its first-out and follows next-out"; "0 ends the chain"
pub data Follows (c : Chain) (t : Fields) : ℕ → List ℕ → Type 0 where
  stop : Follows c t 0 []
  go : {k : ℕ} {ks : List ℕ} → Follows c t (next c (arc_at t (suc k))) ks → Follows c t (suc k) (suc k ∷ ks)

unfoldable pub steps : Chain → Fields → ℕ → ℕ → ℕ
steps c t k zero = k
steps c t k (suc i) = steps c t (follow c t k) i

unfoldable pub along : Chain → Fields → ℕ → ℕ → List ℕ
along c t zero k = []
along c t (suc l) zero = []
along c t (suc l) (suc k) = suc k ∷ along c t l (next c (arc_at t (suc k)))

unfoldable pub met : Chain → Fields → ℕ → List ℕ
met c t p = along c t (m_of t) (first c t p)

-- each arc of a list belongs to p's chain
abbrev pub Own : Chain → Fields → ℕ → List ℕ → Type 0
Own c t p ks = (j : ℕ) → 1 ≤ occ j ks → near c (arc_at t j) ≡ p

pub record Listed (c : Chain) (t : Fields) (p : ℕ) (ks : List ℕ) : Type 0 where
  pub follows : Follows c t (first c t p) ks
  pub arcs : InRange ks (m_of t)
  pub own : Own c t p ks
  pub short : length ks ≤ m_of t
  pub counts : (k : ℕ) → IsArc t k → occ k ks ≡ bit (eqb (near c (arc_at t k)) p)

pub record Inside (c : Chain) (t : Fields) : Type 0 where
  pub firsts : (p : ℕ) → IsProcess (n_of t) p → first c t p ≤ m_of t
  pub nexts : (k : ℕ) → IsArc t k → next c (arc_at t k) ≤ m_of t
  pub nears : (k : ℕ) → IsArc t k → IsProcess (n_of t) (near c (arc_at t k))

-- whom the chain's process waits for, or who waits for it, by this arc
unfoldable pub far : Chain → Arc → ℕ
far Out a = a.to
far In a = a.from

-- "An arc says that *from* waits for *to*", seen from the chain's process
abbrev pub joins : Chain → Waits → ℕ → ℕ → Bool
joins Out w p q = w.waits p q
joins In w p q = w.waits q p

abbrev pub degree : Chain → Waits → ℕ → ℕ
degree Out w p = out_degree w p
degree In w p = in_degree w p
