-- The arc that joins two processes, and where the links of an arc stand.
--   Joins t a b k     == k is an arc of the table, and goes from a to b
--   LinkAt t a b      == the link from a to b is the first of an arc from a to b, or the second of an arc from b to a
-- Assumes nothing.
use Rattle.std.specs.Prelude.{ℕ, ◌+◌, true, ◌≡◌}
use Rattle.tables.specs.Table.{Fields, arc_at}
use Rattle.tables.specs.Layout.{IsArc}
use Rattle.areas.specs.Places.{link_size}
use Rattle.areas.specs.Area.{link_place, link_of, has_back}

abbrev pub Joins : Fields → ℕ → ℕ → ℕ → Type 0
Joins t a b k = IsArc t k × ((arc_at t k).from ≡ a) × ((arc_at t k).to ≡ b)

-- where the link from a to b stands
pub data LinkAt (t : Fields) (a b : ℕ) : Type 0 where
  forth : (k : ℕ) → Joins t a b k → link_of t a b ≡ link_place t k → LinkAt t a b
  back : (k : ℕ) → Joins t b a k → has_back t k ≡ true → link_of t a b ≡ link_place t k + link_size → LinkAt t a b
