-- A square that is filled arc by arc.
--   Held t i j sq           == the square holds the arcs 1 to i as arcs forth, and 1 to j as arcs back
--   held_first, held_all    == no arc is held in zeros; the square that holds all is that of the table
--   held_small              == an arc more can be put into a cell of it
--   ends_low                == the ends of an arc stand in the square
--   held_forth, held_back   == one arc more, forth and back
-- Assumes nothing.
use Prim.Native.Nat.{ℕ, suc, ◌+◌, ◌*◌, ◌≤◌, ◌<◌}
use mathlib.Core.Bool.{true}
use mathlib.Core.List.{List}
use mathlib.Core.Path.{◌≡◌, sym, ◌∙◌}
use native.Mathlib.Omega.{arith}
use borrow.Author.Tests.{eq-eqb}
use lib.Dec.{eqb}
use lib.ListN.{length, get_or, set, length-set}
use lib.Seq.{get_or-set_same, get_or-set_other}
use Rattle.base.specs.Choice.{choose}
use Rattle.base.specs.ChoiceLaws.{same?, and_both}
use Rattle.base.specs.Checks.{Same, same, apart}
use Rattle.tables.specs.Table.{Fields, m_of, most_processes, arc_at, says_wait}
use Rattle.tables.specs.Layout.{Right}
use Rattle.tables.specs.Pairs.{square_side, square_size}
use Rattle.areas.specs.Area.{link_place, arc_in, arc_of}
use Rattle.areas.specs.Squares.{cell_by, cell_of, with_forth, with_back, cell_room, cell, Square}
use Rattle.areas.specs.SquareLaws.{cell_by_none, with_forth_is, with_back_is}
use Rattle.areas.specs.ArcLaws.{arc_in_zero, arc_in_new, arc_in_right}
use Rattle.rows.proofs.Cells.{arc_low, cell_small}

pub record Held (t : Fields) (i j : ℕ) (sq : List ℕ) : Type 0 where
  pub long : length sq ≡ square_size
  pub cells : (a b : ℕ) → a ≤ most_processes → b ≤ most_processes → cell sq a b ≡ cell_by t (arc_in t a b i) (arc_in t b a j)

pub held_first : (t : Fields) {sq : List ℕ} → length sq ≡ square_size → ((k : ℕ) → get_or sq k 0 ≡ 0) → Held t 0 0 sq
held_first t l z =
    record { long = l; cells = λ a b _ _. z (a * square_side + b) ∙ sym (rw (arc_in_zero t a b, arc_in_zero t b a) (cell_by_none t)) }

pub held_all : {t : Fields} {i : ℕ} {sq : List ℕ} → Held t i i sq → i ≡ m_of t → Square t sq
unfolding cell_of arc_of
held_all h e = record { long = h.long; cells = λ a b u v. rw (← e) (h.cells a b u v) }

-- another number at one pair
set_cells : (sq : List ℕ) → length sq ≡ square_size → {p q : ℕ} → p ≤ most_processes → q ≤ most_processes → (f : ℕ → ℕ → ℕ) {v : ℕ} → v ≡ f p q
    → ((a b : ℕ) → a ≤ most_processes → b ≤ most_processes → (a ≡ p → b ≡ q → ⊥) → cell sq a b ≡ f a b)
    → (a b : ℕ) → a ≤ most_processes → b ≤ most_processes → cell (set sq (p * square_side + q) v) a b ≡ f a b
set_cells sq l {p} {q} x y f {v} e h a b u w = at (same? a p) (same? b q)
  where
    other : (a ≡ p → b ≡ q → ⊥) → (a * square_side + b ≡ p * square_side + q → ⊥) → cell (set sq (p * square_side + q) v) a b ≡ f a b
    other d n = get_or-set_other sq (p * square_side + q) (a * square_side + b) v 0 n ∙ h a b u w d

    at : Same a p → Same b q → cell (set sq (p * square_side + q) v) a b ≡ f a b
    at (same i _) (same j _) = rw (i, j) (get_or-set_same sq (p * square_side + q) v 0 (omega arith) ∙ e)
    at (apart i _) _ = other (λ z _. i z) (λ z. i (omega arith))
    at (same i _) (apart j _) = other (λ _ z. j z) (λ z. j (omega arith))

module _ {t : Fields} (g : Right t) where
  pub held_small : {i j : ℕ} {sq : List ℕ} → Held t i j sq → i ≤ m_of t → j ≤ m_of t → (a b : ℕ) → a ≤ most_processes → b ≤ most_processes
      → cell sq a b < cell_room
  held_small {i} {j} h u v a b x y =
      rw (h.cells a b x y) (cell_small t g (arc_in t a b i) (arc_in t b a j) (omega (arith, arc_low t a b i)) (omega (arith, arc_low t b a j)))

  module _ {k : ℕ} (j : ℕ) (e : k ≡ suc j) (top : k ≤ m_of t) {p q : ℕ} (from : p ≡ (arc_at t k).from) (to : q ≡ (arc_at t k).to) where
    says : says_wait t p q (suc j) ≡ true
    says = and_both (eqb (arc_at t (suc j)).from p) (eqb (arc_at t (suc j)).to q) (eq-eqb _ _ (sym (rw e at from))) (eq-eqb _ _ (sym (rw e at to)))

    -- the arc of its own ends, before and after
    before : arc_in t p q j ≡ 0
    before = arc_in_new t p q j g (omega arith) says

    after : arc_in t p q k ≡ suc j
    after = rw (e, arc_in_right t p q j g (omega arith), says)

    -- the arc of others
    others : (a b : ℕ) → (a ≡ p → b ≡ q → ⊥) → arc_in t a b k ≡ arc_in t a b j
    others a b d = rw (e, arc_in_right t a b j g (omega arith)) (at (same? (arc_at t (suc j)).from a) (same? (arc_at t (suc j)).to b))
      where
        at : Same (arc_at t (suc j)).from a → Same (arc_at t (suc j)).to b → choose (says_wait t a b (suc j)) (suc j) (arc_in t a b j) ≡ arc_in t a b j
        at (same x _) (same y _) = absurd (d (sym (from ∙ rw e x)) (sym (to ∙ rw e y)))
        at (apart x m) _ = rw m
        at (same x m) (apart y n) = rw (m, n)

    pub ends_low : (p ≤ most_processes) × (q ≤ most_processes)
    ends_low = omega (arith, g.sizes, g.ends k (omega arith, top))

    module _ {l : ℕ} {sq two : List ℕ} {x : ℕ} (place : x ≡ link_place t k) where
      pub held_forth : Held t j l sq → two ≡ set sq (p * square_side + q) (with_forth (cell sq p q) x) → Held t k l two
      held_forth h f =
          rw f
          (record {
            long = simp length-set h.long;
            cells =
                set_cells sq h.long ends_low.0 ends_low.1 (λ a b. cell_by t (arc_in t a b k) (arc_in t b a l))
                (rw (h.cells p q ends_low.0 ends_low.1, before, after, place, e) (with_forth_is t (arc_in t q p l) j))
                (λ a b u v d. rw (others a b d) (h.cells a b u v));
          })

      pub held_back : Held t l j sq → two ≡ set sq (q * square_side + p) (with_back (cell sq q p) x) → Held t l k two
      held_back h f =
          rw f
          (record {
            long = simp length-set h.long;
            cells =
                set_cells sq h.long ends_low.1 ends_low.0 (λ a b. cell_by t (arc_in t a b l) (arc_in t b a k))
                (rw (h.cells q p ends_low.1 ends_low.0, before, after, place, e) (with_back_is t (arc_in t q p l) j))
                (λ a b u v d. rw (others b a (λ y z. d z y)) (h.cells a b u v));
          })
