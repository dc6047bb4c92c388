-- The link to the process of a row.
--   Sought t a b k          == an arc from a is still ahead on the in-chain of b at arc k, if there is one
--   sought_first, sought_next, sought_here, sought_none   == where the search begins and goes on, and what it finds
--   place_second, place_first, place_both   == where the link from a to b begins, by the cell of a in the row of b
-- Assumes nothing.
use Prim.Native.Nat.{ℕ, ◌+◌, ◌-◌, ◌≤◌}
use mathlib.Core.Bool.{true, false, not, false≢true}
use mathlib.Core.List.{List}
use mathlib.Core.Path.{◌≡◌, sym, ap, ◌∙◌}
use native.Mathlib.Omega.{arith}
use lib.Dec.{eqb}
use lib.ListN.{get_or}
use Rattle.base.specs.Choice.{bit}
use Rattle.base.specs.ChoiceLaws.{same?, bit_apart}
use Rattle.base.specs.Checks.{Same, same, apart}
use Rattle.base.specs.Counts.{sum_over}
use Rattle.tables.specs.declared.Chain.TheVariants.{Out, In}
use Rattle.tables.specs.Table.{Fields, n_of, m_of, most_processes, IsProcess, first, arc_at, near, next}
use Rattle.tables.specs.Layout.{Right}
use Rattle.tables.specs.Waits.{waits_of, neighbours}
use Rattle.tables.specs.WaitsLaws.{neighbours_swap}
use Rattle.tables.specs.Chains.{far}
use Rattle.areas.specs.Places.{link_size}
use Rattle.areas.specs.Area.{link_place, arc_of, link_of}
use Rattle.areas.specs.Squares.{place_in, joins_in, Linked, Row}
use Rattle.areas.specs.SquareLaws.{cell_of_joins, row_linked}
use Rattle.areas.specs.ArcLaws.{arc_of_is, arc_of_waits}
use Rattle.lenses.proofs.ChainWalks.{ends, to_go, ArcsLeft, first_ends, left_first, left_on, left_end}
use Rattle.rows.proofs.Cells.{arc_low}

pub record Sought (t : Fields) (a b k : ℕ) : Type 0 where
  pub here : ArcsLeft In t b k
  pub rest : ends In t (to_go In t k) a ≡ bit (not (eqb (arc_of t a b) 0))

module _ {t : Fields} (g : Right t) {a b : ℕ} where
  pub sought_first : IsProcess (n_of t) a → IsProcess (n_of t) b → {k : ℕ} → k ≡ first In t b → Sought t a b k
  sought_first x y e = rw e (record { here = left_first g y; rest = first_ends In g y a x ∙ ap bit (arc_of_waits t a b) })

  module _ {k : ℕ} (s : Sought t a b k) where
    pub sought_next : (k ≡ 0 → ⊥) → ((arc_at t k).from ≡ a → ⊥) → Sought t a b (next In (arc_at t k))
    unfolding far
    sought_next h d =
        let o = left_on g k s.here h in
        record { here = o.onward; rest = omega (arith, o.count a, bit_apart a (arc_at t k).from (λ z. d (sym z)), s.rest) }

    pub sought_here : (k ≡ 0 → ⊥) → (arc_at t k).from ≡ a → k ≡ arc_of t a b
    unfolding near
    sought_here h e = let o = left_on g k s.here h in sym (arc_of_is t g a b k (o.arc, e, o.own))

    pub sought_none : k ≡ 0 → 0 ≡ arc_of t a b
    unfolding sum_over
    sought_none z = at (same? (arc_of t a b) 0)
      where
        at : Same (arc_of t a b) 0 → 0 ≡ arc_of t a b
        at (same e _) = sym e
        at (apart _ q) =
            let none : ends In t (to_go In t k) a ≡ 0 = ap {A = List ℕ} (λ ks. ends In t ks a) (left_end g s.here z) in
            let one : bit (not (eqb (arc_of t a b) 0)) ≡ 1 = rw q in
            absurd (omega (arith, s.rest))

-- ---- by the row

module _ {t : Fields} {a b : ℕ} (j : neighbours (waits_of t) a b ≡ true) {row : List ℕ} (r : Row t b row) (u : a ≤ most_processes) {k : ℕ}
    (e : k ≡ get_or row a 0) where
  back_said : joins_in In k ≡ not (eqb (arc_of t a b) 0)
  back_said = rw (e, r.cells a u) (cell_of_joins t In b a) ∙ arc_of_waits t a b

  forth_said : joins_in Out k ≡ not (eqb (arc_of t b a) 0)
  forth_said = rw (e, r.cells a u) (cell_of_joins t Out b a) ∙ arc_of_waits t b a

  module _ {i : ℕ} (p : i ≡ place_in k) where
    -- the link from b to a
    mirrored : i ≡ link_of t b a
    mirrored = (row_linked t r u (neighbours_swap (waits_of t) b a ∙ j) e p).at

    pub place_second : joins_in In k ≡ false → Linked t a b (i + link_size)
    unfolding link_of neighbours
    place_second n = record { joined = j; at = at (same? (arc_of t a b) 0) (same? (arc_of t b a) 0) }
      where
        at : Same (arc_of t a b) 0 → Same (arc_of t b a) 0 → i + link_size ≡ link_of t a b
        at (same _ x) (apart _ y) =
            let f : link_of t b a ≡ link_place t (arc_of t b a) = rw y in
            let h : link_of t a b ≡ link_place t (arc_of t b a) + link_size = rw x in
            omega (arith, mirrored)
        at (same _ x) (same _ y) = absurd (false≢true (rw (arc_of_waits t a b, arc_of_waits t b a, x, y) at j))
        at (apart _ x) _ = absurd (false≢true (sym n ∙ back_said ∙ rw x))

    pub place_first : joins_in In k ≡ true → joins_in Out k ≡ false → (link_size ≤ i) × Linked t a b (i - link_size)
    unfolding link_of
    place_first m n = at (same? (arc_of t a b) 0) (same? (arc_of t b a) 0)
      where
        at : Same (arc_of t a b) 0 → Same (arc_of t b a) 0 → (link_size ≤ i) × Linked t a b (i - link_size)
        at (apart _ x) (same _ y) =
            let f : link_of t b a ≡ link_place t (arc_of t a b) + link_size = rw y in
            let h : link_of t a b ≡ link_place t (arc_of t a b) = rw x in
            (omega (arith, mirrored), record { joined = j; at = omega (arith, mirrored) })
        at (same _ x) _ = absurd (false≢true (sym (back_said ∙ rw x) ∙ m))
        at (apart _ x) (apart _ y) = absurd (false≢true (sym n ∙ forth_said ∙ rw y))

  -- the arc from a to b
  pub arc_some : joins_in In k ≡ true → {q : ℕ} → q ≡ arc_of t a b → (1 ≤ q) × (q ≤ m_of t)
  unfolding arc_of
  arc_some m {q} f = at (same? (arc_of t a b) 0)
    where
      at : Same (arc_of t a b) 0 → (1 ≤ q) × (q ≤ m_of t)
      at (same _ x) = absurd (false≢true (sym (back_said ∙ rw x) ∙ m))
      at (apart x _) = (omega (arith, x), omega (arith, arc_low t a b (m_of t)))

  pub place_both : joins_in In k ≡ true → {q : ℕ} → q ≡ arc_of t a b → {i : ℕ} → i ≡ link_place t q → Linked t a b i
  unfolding link_of
  place_both m {q} f {i} p = record { joined = j; at = at (same? (arc_of t a b) 0) }
    where
      at : Same (arc_of t a b) 0 → i ≡ link_of t a b
      at (same _ x) = absurd (false≢true (sym (back_said ∙ rw x) ∙ m))
      at (apart _ x) = p ∙ rw (x, f)
