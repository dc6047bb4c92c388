-- What the inner functions of the reader ask of the bytes that they are lent, once the tests before them passed, and what one answers.
--   HoldsTable bs sizes   == the bytes hold a table of these sizes: these are their N, in its range, and their M, and they are long enough for them
--   Linked t          == check 5 passed: no first or next is over M
--   Chained t         == the checks 4 and 5 passed, and check 6 for the out-chains
--   LastMet p ls      == the list has a number below p for each process: in code the last chain that led to it, 0 if none did
--   Distinct t p, Clash t   == no two arcs of p agree in both ends; two arcs of the table do
--   ChainTold t p b   == what the walk along the out-chain of p says by its answer b
--   arcs_left_of        == a number of arcs left, or none for a chain that goes wrong, as the code gives it
-- Assumes nothing.
use Rattle.std.specs.Prelude.{ℕ, ◌≤◌, ◌<◌, Bool, true, false, ◌≡◌, List, Option, Some, None, length, get_or}
use Rattle.base.specs.Sums.{all_to}
use Rattle.tables.specs.declared.Chain.TheVariants.{Out}
use Rattle.tables.specs.declared.Sizes.{Sizes}
use Rattle.tables.specs.Table.{Fields, field_of, n_of, m_of, most_processes, table_length, arc_at}
use Rattle.tables.specs.Layout.{IsArc, Alike}
use Rattle.tables.specs.Pairs.{square_side}
use Rattle.tables.specs.Reading.{Left, left, wrong, ends_right, firsts_right, nexts_right, chains_right}

-- the bytes hold a table of these sizes, perhaps with more bytes after it
pub record HoldsTable (bs : List ℕ) (sizes : Sizes) : Type 0 where
  pub processes : sizes.n ≡ n_of (field_of bs)
  pub arcs : sizes.m ≡ m_of (field_of bs)
  pub few : sizes.n ≤ most_processes
  pub long : table_length sizes.n sizes.m ≤ length bs

-- no first and no next is over M
pub record Linked (t : Fields) : Type 0 where
  pub firsts : all_to (n_of t) (firsts_right t) ≡ true
  pub nexts : all_to (m_of t) (nexts_right t) ≡ true

-- all that the walks along the out-chains build on
pub record Chained (t : Fields) : Type 0 where
  pub ends : all_to (m_of t) (ends_right t) ≡ true
  pub linked : Linked t
  pub outs : chains_right Out t ≡ true

pub record LastMet (p : ℕ) (ls : List ℕ) : Type 0 where
  pub long : length ls ≡ square_side
  pub low : (b : ℕ) → get_or ls b 0 < p

abbrev pub Distinct : Fields → ℕ → Type 0
Distinct t p = (j k : ℕ) → IsArc t j → IsArc t k → (arc_at t k).from ≡ p → Alike t j k → j ≡ k

abbrev pub Clash : Fields → Type 0
Clash t = (j : ℕ) × (k : ℕ) × IsArc t j × IsArc t k × Alike t j k × (j ≡ k → ⊥)

abbrev pub ChainTold : Fields → ℕ → Bool → Type 0
ChainTold t p true = Distinct t p
ChainTold t p false = Clash t

-- the code's answer for one chain
abbrev pub arcs_left_of : Left → Option ℕ
arcs_left_of (left l) = Some l
arcs_left_of wrong = None
