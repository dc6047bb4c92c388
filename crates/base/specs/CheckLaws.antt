-- Tests made of tests, with their meanings.
--   check_of          == a test, from what each of its values says
--   check_map         == other words for the two meanings
--   check_le, check_eq, check_not, check_both, check_all   == the two meanings of a test, from those of its parts
-- Assumes nothing.
use Rattle.std.specs.Prelude.{ℕ, zero, suc, ◌≤◌, ◌<◌, Bool, true, false, not, ◌&&◌, ◌⊎◌, ◌≡◌, refl, eqb, leb}
use Rattle.std.proofs.lemmas.Bool.{false≢true}
use Rattle.std.proofs.Math.Bool.{and-true}
use Rattle.std.proofs.Common.{inl, inr, sym, ◌∙◌, leb-true, leb-false, arith}
use Rattle.base.specs.Sums.{all_to}
use Rattle.base.specs.Checks.{Check, holds, fails}
use Rattle.base.specs.ChoiceLaws.{tested, same?}
use Rattle.base.specs.Checks.{Tested, passed, failed, Same, same, apart}
use Rattle.base.specs.SumLaws.{all_to_at}

pub check_of : (b : Bool) (P R : Type 0) → (b ≡ true → P) → (b ≡ false → R) → Check b P R
check_of true P R f g = holds refl (f refl)
check_of false P R f g = fails refl (g refl)

pub check_map : {b : Bool} {P R P' R' : Type 0} → (P → P') → (R → R') → Check b P R → Check b P' R'
check_map f g (holds e p) = holds e (f p)
check_map f g (fails e r) = fails e (g r)

pub check_le : (a b : ℕ) → Check (leb a b) (a ≤ b) (b < a)
check_le a b = check_of (leb a b) (a ≤ b) (b < a) (leb-true a b) (leb-false a b)

pub check_eq : (a b : ℕ) → Check (eqb a b) (a ≡ b) (a ≡ b → ⊥)
check_eq a b = at (same? a b)
  where
    at : Same a b → Check (eqb a b) (a ≡ b) (a ≡ b → ⊥)
    at (same e q) = holds q e
    at (apart e q) = fails q e

pub check_not : {b : Bool} {P R : Type 0} → Check b P R → Check (not b) R P
check_not (holds e p) = fails (rw e) p
check_not (fails e r) = holds (rw e) r

pub check_both : {a b : Bool} {P R Q S : Type 0} → Check a P R → Check b Q S → Check (a && b) (P × Q) (R ⊎ S)
check_both (holds e p) (holds e' q) = holds (rw (e, e')) (p, q)
check_both (holds e p) (fails e' s) = fails (rw (e, e')) (inr s)
check_both (fails e r) other = fails (rw e) (inl r)

-- where not all pass a test, some number fails it
record Failing (n : ℕ) (p : ℕ → Bool) : Type 0 where
  at : ℕ
  low : 1 ≤ at
  high : at ≤ n
  fails : p at ≡ false

all_to_failing : (n : ℕ) (p : ℕ → Bool) → all_to n p ≡ false → Failing n p
unfolding all_to
all_to_failing zero p e = absurd (false≢true (sym e))
all_to_failing (suc n) p e = here (tested (p (suc n))) (all_to_failing n p)
  where
    more : Failing n p → Failing (suc n) p
    more f = record { at = f.at; low = f.low; high = omega arith; fails = f.fails }

    here : Tested (p (suc n)) → (all_to n p ≡ false → Failing n p) → Failing (suc n) p
    here (passed q) below = more (below (sym (and-true (all_to n p)) ∙ rw q at e))
    here (failed q) below = record { at = suc n; low = omega arith; high = omega arith; fails = q }

-- a test of each of 1 to n
pub check_all : (n : ℕ) (p : ℕ → Bool) (P R : ℕ → Type 0) → ((k : ℕ) → Check (p k) (P k) (R k))
    → Check (all_to n p) ((k : ℕ) → (1 ≤ k) × (k ≤ n) → P k) ((k : ℕ) × ((1 ≤ k) × (k ≤ n)) × R k)
check_all n p P R h = check_of (all_to n p) _ _ (λ e k r. pass k (h k) (all_to_at n p e k r.0 r.1)) (λ e. fail (all_to_failing n p e))
  where
    pass : (k : ℕ) → Check (p k) (P k) (R k) → p k ≡ true → P k
    pass k (holds e q) e' = q
    pass k (fails e q) e' = absurd (false≢true (sym e ∙ e'))

    drop : (k : ℕ) → Check (p k) (P k) (R k) → p k ≡ false → R k
    drop k (holds e q) e' = absurd (false≢true (sym e' ∙ e))
    drop k (fails e q) e' = q

    fail : Failing n p → (k : ℕ) × ((1 ≤ k) × (k ≤ n)) × R k
    fail f = (f.at, (f.low, f.high), drop f.at (h f.at) f.fails)
