-- Laws on following chains, one for each way that the code goes.
--   walked_end, walked_none, walked_foreign, walked_on   == one chain: at its end, with no arc left, at a foreign arc, at an own arc
--   walked_to_none, walked_to_more   == the chains of 1 to p, one after the other
--   chains_right_stop, chains_right_last   == the test of all chains, once one goes wrong, or after the last
-- Assumes nothing.
use Prim.Native.Nat.{ℕ, zero, suc, ◌+◌, ◌-◌, ◌≤◌}
use mathlib.Core.Bool.{false}
use mathlib.Core.Path.{◌≡◌, refl, sym, ap, ◌∙◌, subst}
use borrow.Author.Tests.{eq-eqb, ne_eqb}
use native.Mathlib.Omega.{arith}
use lib.Dec.{eqb}
use Rattle.base.specs.ChoiceLaws.{same?}
use Rattle.base.specs.Checks.{Same, same, apart}
use Rattle.tables.specs.declared.Chain.{Chain}
use Rattle.std.specs.Prelude.{Option, Some, None}
use Rattle.tables.specs.Table.{Fields, n_of, m_of, first, arc_at, near, next}
use Rattle.tables.specs.Reading.{Left, left, wrong, walked, then_walked, walked_to, none_left, chains_right}
use Rattle.table_reader.specs.Inner.{arcs_left_of}

module _ (c : Chain) (t : Fields) (p : ℕ) where
  pub walked_end : (l k : ℕ) → k ≡ 0 → walked c t p l k ≡ left l
  unfolding walked
  walked_end zero zero e = refl
  walked_end zero (suc k) e = absurd (omega arith)
  walked_end (suc l) zero e = refl
  walked_end (suc l) (suc k) e = absurd (omega arith)

  pub walked_none : (l k : ℕ) → (k ≡ 0 → ⊥) → l ≡ 0 → walked c t p l k ≡ wrong
  unfolding walked
  walked_none zero zero d e = absurd (d refl)
  walked_none zero (suc k) d e = refl
  walked_none (suc l) zero d e = absurd (omega arith)
  walked_none (suc l) (suc k) d e = absurd (omega arith)

  pub walked_foreign : (l k : ℕ) → (k ≡ 0 → ⊥) → (l ≡ 0 → ⊥) → (near c (arc_at t k) ≡ p → ⊥) → walked c t p l k ≡ wrong
  unfolding walked
  walked_foreign zero zero d e h = absurd (d refl)
  walked_foreign zero (suc k) d e h = absurd (e refl)
  walked_foreign (suc l) zero d e h = absurd (d refl)
  walked_foreign (suc l) (suc k) d e h = rw (ne_eqb (near c (arc_at t (suc k))) p h)

  pub walked_on : (l k : ℕ) → (k ≡ 0 → ⊥) → (l ≡ 0 → ⊥) → near c (arc_at t k) ≡ p → walked c t p l k ≡ walked c t p (l - 1) (next c (arc_at t k))
  unfolding walked
  walked_on zero zero d e h = absurd (d refl)
  walked_on zero (suc k) d e h = absurd (e refl)
  walked_on (suc l) zero d e h = absurd (d refl)
  walked_on (suc l) (suc k) d e h =
      let less : l ≡ suc l - 1 = omega arith in
      rw (eq-eqb (near c (arc_at t (suc k))) p h) (ap (λ (j : ℕ). walked c t p j (next c (arc_at t (suc k)))) less)

-- ---- all chains in turn

arcs_left_of_left : (w : Left) (l : ℕ) → arcs_left_of w ≡ Some l → w ≡ left l
arcs_left_of_left (left j) l e = cc
arcs_left_of_left wrong l e = absurd (let z : ◌≡◌ {A = ℕ} 0 1 = cc in omega arith)

arcs_left_of_wrong : (w : Left) → arcs_left_of w ≡ None → w ≡ wrong
arcs_left_of_wrong (left j) e = absurd (let z : ◌≡◌ {A = ℕ} 0 1 = cc in omega arith)
arcs_left_of_wrong wrong e = refl

none_left_left : (l : ℕ) → none_left (left l) ≡ eqb l 0
none_left_left zero = refl
none_left_left (suc l) = sym (ne_eqb (suc l) 0 (λ e. absurd (omega arith)))

module _ (c : Chain) (t : Fields) where
  pub walked_to_none : walked_to c t 0 ≡ left (m_of t)
  unfolding walked_to
  walked_to_none = refl

  walked_to_suc : (p : ℕ) → walked_to c t (suc p) ≡ then_walked c t (suc p) (walked_to c t p)
  unfolding walked_to
  walked_to_suc p = refl

  -- one chain more
  on : (p q l : ℕ) → suc q ≡ p → walked_to c t q ≡ left l → walked_to c t p ≡ walked c t p l (first c t p)
  on p q l e h = subst (λ (r : ℕ). walked_to c t r ≡ walked c t r l (first c t r)) e (walked_to_suc q ∙ ap (then_walked c t (suc q)) h)

  stuck : (n p : ℕ) → p ≤ n → walked_to c t p ≡ wrong → walked_to c t n ≡ wrong
  stuck zero p u h =
      let z : 0 ≡ p = omega arith in
      ap (walked_to c t) z ∙ h
  stuck (suc n) p u h = at (same? p (suc n)) (λ v. stuck n p v h)
    where
      at : Same p (suc n) → (p ≤ n → walked_to c t n ≡ wrong) → walked_to c t (suc n) ≡ wrong
      at (same e _) below = ap (walked_to c t) (sym e) ∙ h
      at (apart e _) below = walked_to_suc n ∙ ap (then_walked c t (suc n)) (below (omega arith))

  module _ (p l : ℕ) (low : 1 ≤ p) (before : walked_to c t (p - 1) ≡ left l) (w : Option ℕ) (ew : w ≡ arcs_left_of (walked c t p l (first c t p))) where
    here : walked_to c t p ≡ walked c t p l (first c t p)
    here = on p (p - 1) l (omega arith) before

    pub walked_to_more : (j : ℕ) → w ≡ Some j → walked_to c t (p + 1 - 1) ≡ left j
    walked_to_more j e =
        let next : p + 1 - 1 ≡ p = omega arith in
        ap (walked_to c t) next ∙ here ∙ arcs_left_of_left (walked c t p l (first c t p)) j (sym ew ∙ e)

    pub chains_right_stop : p ≤ n_of t → w ≡ None → chains_right c t ≡ false
    unfolding chains_right
    chains_right_stop u e = ap none_left (stuck (n_of t) p u (here ∙ arcs_left_of_wrong (walked c t p l (first c t p)) (sym ew ∙ e)))

  pub chains_right_last : (p l : ℕ) → p ≡ n_of t + 1 → walked_to c t (p - 1) ≡ left l → chains_right c t ≡ eqb l 0
  unfolding chains_right
  chains_right_last p l e h =
      let last : n_of t ≡ p - 1 = omega arith in
      ap none_left (ap (walked_to c t) last ∙ h) ∙ none_left_left l
