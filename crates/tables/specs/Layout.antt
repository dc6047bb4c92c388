-- The published layout, as 01's section "Wait table" states it, and the rows 1 to 7 of "Refused because of the input".
--   IsArc t k                == k is an arc of the table: "Processes and arcs count from 1 in file order" (processes: IsProcess, Table)
--   Right t, MeetsLayout bs  == fields, and bytes, meet the layout
--   Sizes t                  == N and M are in their ranges
--   Ends t k, Alike t j k    == both ends of arc k are processes; arcs j and k agree in from and to
--   Meets c t p i k          == the chain of p meets arc k, i steps after its first
--   ChainRight c t p         == the chain of p "meets each arc with from = p once and meets nothing else" (to = p on the in-chain)
--   Twice, Foreign, Misses, Faulty   == row 6: "a chain meets an arc twice, meets a foreign one or misses one"
--   RowOf r bs t, Row r bs   == row r of the table of refusals is met, by fields t that the bytes may hold; by the bytes' own fields
--   NoneBefore r bs          == no row before r is met
-- Assumes nothing.
use Rattle.std.specs.Prelude.{ℕ, zero, suc, ◌≤◌, ◌<◌, List, ◌≡◌, ◌⊎◌, length}
use Rattle.tables.specs.declared.Chain.{Chain}
use Rattle.tables.specs.Table.{Fields, field_of, n_of, m_of, SizesFit, table_length, IsProcess, first, arc_at, near, next, place}

-- "Processes and arcs count from 1 in file order."
abbrev pub IsArc : Fields → ℕ → Type 0
IsArc t k = (1 ≤ k) × (k ≤ m_of t)

-- the chain meets arc k, i steps after its first
abbrev pub Meets : Chain → Fields → ℕ → ℕ → ℕ → Type 0
Meets c t p i k = (place c t p i ≡ k) × (1 ≤ k)

-- "It meets each arc with from = p once and meets nothing else."
pub record ChainRight (c : Chain) (t : Fields) (p : ℕ) : Type 0 where
  pub each : (k : ℕ) → IsArc t k → near c (arc_at t k) ≡ p → (i : ℕ) × Meets c t p i k
  pub once : (i j k : ℕ) → Meets c t p i k → Meets c t p j k → i ≡ j
  pub nothing_else : (i k : ℕ) → Meets c t p i k → IsArc t k × (near c (arc_at t k) ≡ p)

-- N is 1 to 128 and M is 0 to 512
abbrev pub Sizes : Fields → Type 0
Sizes t = SizesFit (n_of t) (m_of t)

-- both ends of an arc are processes
abbrev pub Ends : Fields → ℕ → Type 0
Ends t k = IsProcess (n_of t) (arc_at t k).from × IsProcess (n_of t) (arc_at t k).to

-- two arcs agree in from and to
abbrev pub Alike : Fields → ℕ → ℕ → Type 0
Alike t j k = ((arc_at t j).from ≡ (arc_at t k).from) × ((arc_at t j).to ≡ (arc_at t k).to)

-- the section "Wait table", but for the number of bytes: this serves the copied table of a run area too
pub record Right (t : Fields) : Type 0 where
  pub sizes : Sizes t
  pub ends : (k : ℕ) → IsArc t k → Ends t k
  pub firsts : (c : Chain) (p : ℕ) → IsProcess (n_of t) p → first c t p ≤ m_of t
  pub nexts : (c : Chain) (k : ℕ) → IsArc t k → next c (arc_at t k) ≤ m_of t
  pub chains : (c : Chain) (p : ℕ) → IsProcess (n_of t) p → ChainRight c t p
  pub unlike : (j k : ℕ) → IsArc t j → IsArc t k → Alike t j k → j ≡ k

-- the whole section: "The length is exactly 4 + 4N + 8M bytes."
pub record MeetsLayout (bs : List ℕ) : Type 0 where
  pub long : length bs ≡ table_length (n_of (field_of bs)) (m_of (field_of bs))
  pub right : Right (field_of bs)

-- row 6: "a chain meets an arc twice, meets a foreign one or misses one"
abbrev pub Twice : Chain → Fields → ℕ → Type 0
Twice c t p = (i : ℕ) × (j : ℕ) × (k : ℕ) × (i < j) × Meets c t p i k × Meets c t p j k

abbrev pub Foreign : Chain → Fields → ℕ → Type 0
Foreign c t p = (i : ℕ) × (k : ℕ) × Meets c t p i k × (near c (arc_at t k) ≡ p → ⊥)

abbrev pub Misses : Chain → Fields → ℕ → Type 0
Misses c t p = (k : ℕ) × IsArc t k × (near c (arc_at t k) ≡ p) × ((i : ℕ) → Meets c t p i k → ⊥)

abbrev pub Faulty : Chain → Fields → ℕ → Type 0
Faulty c t p = Twice c t p ⊎ (Foreign c t p ⊎ Misses c t p)

-- the rows 1 to 7 of "Refused because of the input", each as it reads; no other number is a row of reading a table
abbrev pub RowOf : ℕ → List ℕ → Fields → Type 0
RowOf zero bs t = ⊥
RowOf (suc zero) bs t = length bs < 4
RowOf (suc (suc zero)) bs t = Sizes t → ⊥
RowOf (suc (suc (suc zero))) bs t = length bs ≡ table_length (n_of t) (m_of t) → ⊥
RowOf (suc (suc (suc (suc zero)))) bs t = (k : ℕ) × IsArc t k × (Ends t k → ⊥)
RowOf (suc (suc (suc (suc (suc zero))))) bs t =
    ((c : Chain) × (p : ℕ) × IsProcess (n_of t) p × (m_of t < first c t p)) ⊎ ((c : Chain) × (k : ℕ) × IsArc t k × (m_of t < next c (arc_at t k)))
RowOf (suc (suc (suc (suc (suc (suc zero)))))) bs t = (c : Chain) × (p : ℕ) × IsProcess (n_of t) p × Faulty c t p
RowOf (suc (suc (suc (suc (suc (suc (suc zero))))))) bs t = (j : ℕ) × (k : ℕ) × IsArc t j × IsArc t k × Alike t j k × (j ≡ k → ⊥)
RowOf (suc (suc (suc (suc (suc (suc (suc (suc r)))))))) bs t = ⊥

abbrev pub Row : ℕ → List ℕ → Type 0
Row r bs = RowOf r bs (field_of bs)

-- no row before r is met
abbrev pub NoneBefore : ℕ → List ℕ → Type 0
NoneBefore r bs = (q : ℕ) → q < r → Row q bs → ⊥
