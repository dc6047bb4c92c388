-- Laws of tests and of choice by a test.
--   tested b, same? m n, below? m n   == Tested, Same and Below (Checks), computed
--   bit_≤1, bit_some, bit_same, bit_apart, bit_test   == a bit is at most 1; which tests have 1 and which 0
--   none_test             == a test that says whether a number is above 0, by whether it is 0
--   value_not, value_yes  == what a branch on a negated test says, where a callee's promise gives the test's value
--   and_left, and_right, and_both, and_three, and_four, or_cases, or_left, or_right, or_none   == both of two tests, or one of them
-- Assumes nothing.
use Rattle.std.specs.Prelude.{ℕ, zero, suc, ◌≤◌, Bool, true, false, not, ◌&&◌, ◌||◌, ◌≡◌, refl, ◌⊎◌, ◌↔◌, eqb, ltb}
use Rattle.std.proofs.lemmas.Bool.{false≢true, eqb-false, not-true, not-false}
use Rattle.std.proofs.Common.{sym, ap, ◌∙◌, inl, inr, eqb-true, ltb-true, ltb-false, eq-eqb, ne_eqb, arith}
use Rattle.base.specs.Choice.{bit}
use Rattle.base.specs.Checks.{Tested, passed, failed, Same, same, apart, Below, below, beyond}

pub bit_≤1 : (b : Bool) → bit b ≤ 1
bit_≤1 true = omega arith
bit_≤1 false = omega arith

pub bit_some : (b : Bool) → 1 ≤ bit b → b ≡ true
bit_some true h = refl
bit_some false h = absurd (omega arith)

pub bit_test : (b : Bool) → eqb (bit b) 1 ≡ b
bit_test true = refl
bit_test false = refl

pub none_test : (d : ℕ) (b : Bool) → (b ≡ true) ↔ (1 ≤ d) → eqb d 0 ≡ not b
none_test d true h = ne_eqb d 0 (λ e. absurd (omega (arith, h.0 refl)))
none_test zero false h = refl
none_test (suc d) false h = absurd (false≢true (h.1 (omega arith)))

pub bit_same : (x k : ℕ) → x ≡ k → bit (eqb x k) ≡ 1
bit_same x k e = ap bit (eq-eqb x k e)

pub bit_apart : (x k : ℕ) → (x ≡ k → ⊥) → bit (eqb x k) ≡ 0
bit_apart x k h = ap bit (ne_eqb x k h)

pub tested : (b : Bool) → Tested b
tested true = passed refl
tested false = failed refl

same_by : (m n : ℕ) (b : Bool) → eqb m n ≡ b → Same m n
same_by m n true e = same (eqb-true m n e) e
same_by m n false e = apart (eqb-false m n e) e

pub same? : (m n : ℕ) → Same m n
same? m n = same_by m n (eqb m n) refl

below_by : (m n : ℕ) (b : Bool) → ltb m n ≡ b → Below m n
below_by m n true e = below (ltb-true m n e) e
below_by m n false e = beyond (ltb-false m n e) e

pub below? : (m n : ℕ) → Below m n
below? m n = below_by m n (ltb m n) refl

-- the branch on a negated test was taken: the test failed; it was left: the test passed
pub value_not : {b v : Bool} → b ≡ v → not b ≡ true → v ≡ false
value_not {b} p h = sym p ∙ not-true b h

pub value_yes : {b v : Bool} → b ≡ v → not b ≡ false → v ≡ true
value_yes {b} p h = sym p ∙ not-false b h

-- both of two tests, from their conjunction, and back
pub and_left : (a b : Bool) → (a && b) ≡ true → a ≡ true
and_left true b e = refl
and_left false b e = e

pub and_right : (a b : Bool) → (a && b) ≡ true → b ≡ true
and_right true b e = e
and_right false true e = refl
and_right false false e = e

pub and_both : (a b : Bool) → a ≡ true → b ≡ true → (a && b) ≡ true
and_both true b p q = q
and_both false b p q = p

pub and_three : (a b c : Bool) → (a && b && c) ≡ true → (a ≡ true) × (b ≡ true) × (c ≡ true)
and_three a b c e = (and_left a b (and_left (a && b) c e), and_right a b (and_left (a && b) c e), and_right (a && b) c e)

pub and_four : (a b c d : Bool) → (a && b && c && d) ≡ true → (a ≡ true) × (b ≡ true) × (c ≡ true) × (d ≡ true)
and_four a b c d e = let three = and_three a b c (and_left (a && b && c) d e) in (three.0, three.1, three.2, and_right (a && b && c) d e)

pub or_cases : (a b : Bool) → (a || b) ≡ true → (a ≡ true) ⊎ (b ≡ true)
or_cases true b e = inl refl
or_cases false b e = inr e

pub or_left : (a b : Bool) → a ≡ true → (a || b) ≡ true
or_left true b p = refl
or_left false true p = refl
or_left false false p = p

pub or_right : (a b : Bool) → b ≡ true → (a || b) ≡ true
or_right true b p = refl
or_right false b p = p

pub or_none : (a b : Bool) → (a || b) ≡ false → (a ≡ false) × (b ≡ false)
or_none true b e = absurd (false≢true (sym e))
or_none false b e = (refl, e)
