-- The chains of a table that carries a list: each chain falls through its process's own arcs, from the last to the first.
--   carries_chain      == each chain "meets each arc with from = p once and meets nothing else"
-- Assumes nothing.
use Prim.Native.Nat.{ℕ, zero, suc, ◌+◌, ◌-◌, ◌≤◌, ◌<◌}
use Rattle.std.specs.Prelude.{List, ◌≡◌, refl, ltb}
use Rattle.std.proofs.Common.{sym, ◌∙◌, ltb-true, ltb-false}
use native.Mathlib.Omega.{arith}
use Rattle.base.specs.ChoiceLaws.{same?, tested}
use Rattle.base.specs.Checks.{Same, same, apart, Tested, passed, failed}
use Rattle.tables.specs.declared.Chain.{Chain}
use Rattle.tables.specs.Table.{Fields, IsProcess, arc_at, near, follow, place}
use Rattle.tables.specs.Layout.{IsArc, Meets, ChainRight}
use Rattle.table_writer.specs.Writing.{pairs, end, front}
use Rattle.table_writer.specs.Putting.{Carries}
use Rattle.table_writer.specs.FrontLaws.{front_le, front_own, front_last}

-- arc k stands on p's chain
record OwnPair (c : Chain) (list : List ℕ) (p k : ℕ) : Type 0 where
  high : k ≤ pairs list
  ends : end c list k ≡ p

front_is : (c : Chain) (list : List ℕ) (p k j : ℕ) → k ≤ pairs list → front c list p k ≡ suc j → OwnPair c list p (suc j)
front_is c list p k j u e = let below : front c list p k ≤ k = front_le c list p k in record { high = omega arith; ends = front_own c list p k j e }

module _ (n : ℕ) (list : List ℕ) (t : Fields) (h : Carries n list t) (c : Chain) (p : ℕ) (range : IsProcess n p) where
  place_start : place c t p 0 ≡ front c list p (pairs list)
  unfolding place
  place_start = h.first_is c p range

  place_end : (i : ℕ) → place c t p i ≡ 0 → place c t p (suc i) ≡ 0
  unfolding place follow
  place_end i e = rw e

  place_step : (i k : ℕ) → place c t p i ≡ suc k → OwnPair c list p (suc k) → place c t p (suc i) ≡ front c list p k
  unfolding place follow
  place_step i k e o =
      let one_less : suc k - 1 ≡ k = omega arith in
      rw e (h.next_is c (suc k) (omega arith) o.high ∙ rw (o.ends, one_less))

  -- the chain meets p's own arcs only
  place_own : (i k : ℕ) → place c t p i ≡ suc k → OwnPair c list p (suc k)
  place_own zero k e = front_is c list p (pairs list) k (omega arith) (sym place_start ∙ e)
  place_own (suc i) k e = at (place c t p i) refl (place_own i)
    where
      at : (q : ℕ) → place c t p i ≡ q → ((j : ℕ) → place c t p i ≡ suc j → OwnPair c list p (suc j)) → OwnPair c list p (suc k)
      at zero f own = absurd (omega (arith, place_end i f))
      at (suc q) f own =
          let o : OwnPair c list p (suc q) = own q f in
          front_is c list p q k (omega (arith, o.high)) (sym (place_step i q f o) ∙ e)

  -- each arc that the chain meets is below the one before it
  place_less : (i : ℕ) → 1 ≤ place c t p (suc i) → place c t p (suc i) < place c t p i
  place_less i l = at (place c t p i) refl
    where
      at : (q : ℕ) → place c t p i ≡ q → place c t p (suc i) < place c t p i
      at zero f = absurd (omega (arith, place_end i f))
      at (suc q) f = omega (arith, place_step i q f (place_own i q f), front_le c list p q)

  place_falls : (j i : ℕ) → i < j → 1 ≤ place c t p j → place c t p j < place c t p i
  place_falls zero i u l = absurd (omega arith)
  place_falls (suc j) i u l = at (same? i j) (place_falls j i)
    where
      less : place c t p (suc j) < place c t p j
      less = place_less j l

      at : Same i j → (i < j → 1 ≤ place c t p j → place c t p j < place c t p i) → place c t p (suc j) < place c t p i
      at (same e _) below = rw e less
      at (apart e _) below = omega (arith, less, below (omega arith) (omega (arith, less)))

  -- from an arc at or above k the chain comes down to k
  place_reaches : (k : ℕ) → 1 ≤ k → end c list k ≡ p → (d i : ℕ) → k ≤ place c t p i → place c t p i ≤ k + d → (s : ℕ) × Meets c t p s k
  place_reaches k l o zero i f g = (i, (omega arith, l))
  place_reaches k l o (suc d) i f g = at (place c t p i) refl (same? (place c t p i) k) (place_reaches k l o d (suc i))
    where
      at : (q : ℕ) → place c t p i ≡ q → Same (place c t p i) k → (k ≤ place c t p (suc i) → place c t p (suc i) ≤ k + d → (s : ℕ) × Meets c t p s k)
          → (s : ℕ) × Meets c t p s k
      at q e (same s _) on = (i, (s, l))
      at zero e (apart s _) on = absurd (omega arith)
      at (suc q) e (apart s _) on =
          let down : place c t p (suc i) ≡ front c list p q = place_step i q e (place_own i q e) in
          let below : front c list p q ≤ q = front_le c list p q in
          let above : k ≤ front c list p q = front_last c list p q k l (omega arith) o in
          on (omega arith) (omega arith)

  place_each : (k : ℕ) → 1 ≤ k → k ≤ pairs list → end c list k ≡ p → (i : ℕ) × Meets c t p i k
  place_each k l u o =
      let start : place c t p 0 ≡ front c list p (pairs list) = place_start in
      let above : k ≤ front c list p (pairs list) = front_last c list p (pairs list) k l u o in
      place_reaches k l o (place c t p 0) 0 (omega arith) (omega arith)

  place_once : (i j k : ℕ) → Meets c t p i k → Meets c t p j k → i ≡ j
  place_once i j k f g = at (same? i j) (tested (ltb i j))
    where
      at : Same i j → Tested (ltb i j) → i ≡ j
      at (same e _) _ = e
      at (apart e _) (passed b) = absurd (omega (arith, place_falls j i (ltb-true i j b) (omega arith)))
      at (apart e _) (failed b) = absurd (omega (arith, place_falls i j (omega (arith, ltb-false i j b)) (omega arith)))

  pub carries_chain : ChainRight c t p
  carries_chain =
      record {
        each = λ k a e. place_each k a.0 (omega (arith, h.m_is)) (sym (h.near_is c k a.0 (omega (arith, h.m_is))) ∙ e);
        once = place_once;
        nothing_else = foreign;
      }
    where
      foreign : (i k : ℕ) → Meets c t p i k → IsArc t k × (near c (arc_at t k) ≡ p)
      foreign i zero m = absurd (omega arith)
      foreign i (suc k) m =
          let o : OwnPair c list p (suc k) = place_own i k m.0 in
          ((omega arith, omega (arith, h.m_is)), h.near_is c (suc k) (omega arith) o.high ∙ o.ends)
