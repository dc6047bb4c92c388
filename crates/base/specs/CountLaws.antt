-- Laws of lists, most of them of counting in one.
--   occ_of, occ_found, occ_twice, occ_once    == what is counted stands in the list, and where
--   sum_over_occ, sum_over_length, occ_length   == a sum over a list is a sum over 1 to m, each number as often as it occurs
--   replicate_zero   == a list of zeros holds 0 everywhere
-- Assumes nothing.
use Rattle.std.specs.Prelude.{ℕ, zero, suc, ◌+◌, ◌*◌, ◌≤◌, List, [], ◌∷◌, ◌≡◌, refl, eqb, length, get_or, replicate}
use Rattle.std.proofs.Common.{sym, ap, ◌∙◌, subst, zero-mul, mul-one, add-mul, arith}
use Rattle.base.specs.Choice.{bit}
use Rattle.base.specs.Sums.{sum_to}
use Rattle.base.specs.Counts.{occ, sum_over, InRange, Standing, StandingTwice}
use Rattle.base.specs.ChoiceLaws.{bit_same, bit_apart, same?}
use Rattle.base.specs.Checks.{Same, same, apart}
use Rattle.base.specs.SumLaws.{sum_to_cong, sum_to_add, sum_to_zero, sum_to_pick}

-- ---- occ

occ_head : (x : ℕ) (xs : List ℕ) → 1 ≤ occ x (x ∷ xs)
unfolding occ
occ_head x xs = omega (arith, bit_same x x refl)

occ_tail : (k x : ℕ) (xs : List ℕ) → occ k xs ≤ occ k (x ∷ xs)
unfolding occ
occ_tail k x xs = omega arith

-- what stands in a list is counted; members are not 0 here, since 0 is what stands past the end
pub occ_of : (ks : List ℕ) (i k : ℕ) → get_or ks i 0 ≡ k → 1 ≤ k → 1 ≤ occ k ks
occ_of [] i k e l = absurd (omega arith)
occ_of (x ∷ xs) zero k e l = subst (λ (y : ℕ). 1 ≤ occ y (x ∷ xs)) e (occ_head x xs)
occ_of (x ∷ xs) (suc i) k e l = omega (arith, occ_of xs i k e l, occ_tail k x xs)

-- what is counted stands in the list
pub occ_found : (ks : List ℕ) (k : ℕ) → 1 ≤ occ k ks → Standing k ks
unfolding occ
occ_found [] k h = absurd (omega arith)
occ_found (x ∷ xs) k h = at (same? x k) (λ u. occ_found xs k u)
  where
    at : Same x k → (1 ≤ occ k xs → Standing k xs) → Standing k (x ∷ xs)
    at (same e q) more = record { at = 0; high = omega arith; is = e }
    at (apart e q) more =
        let s : Standing k xs = more (omega (arith, bit_apart x k e)) in
        record { at = suc s.at; high = omega arith; is = s.is }

-- what is counted twice stands at two places
pub occ_twice : (ks : List ℕ) (k : ℕ) → 2 ≤ occ k ks → StandingTwice k ks
unfolding occ
occ_twice [] k h = absurd (omega arith)
occ_twice (x ∷ xs) k h = at (same? x k) (λ u. occ_twice xs k u)
  where
    at : Same x k → (2 ≤ occ k xs → StandingTwice k xs) → StandingTwice k (x ∷ xs)
    at (same e q) more =
        let s : Standing k xs = occ_found xs k (omega (arith, bit_same x k e)) in
        record { at = 0; later = suc s.at; order = omega arith; high = omega arith; is = e; again = s.is }
    at (apart e q) more =
        let s : StandingTwice k xs = more (omega (arith, bit_apart x k e)) in
        record { at = suc s.at; later = suc s.later; order = omega arith; high = omega arith; is = s.is; again = s.again }

-- what is counted once stands at one place only
pub occ_once : (ks : List ℕ) (k i j : ℕ) → occ k ks ≤ 1 → 1 ≤ k → get_or ks i 0 ≡ k → get_or ks j 0 ≡ k → i ≡ j
unfolding occ
occ_once [] k i j h l e e' = absurd (omega arith)
occ_once (x ∷ xs) k zero zero h l e e' = refl
occ_once (x ∷ xs) k zero (suc j) h l e e' = absurd (omega (arith, bit_same x k e, occ_of xs j k e' l))
occ_once (x ∷ xs) k (suc i) zero h l e e' = absurd (omega (arith, bit_same x k e', occ_of xs i k e l))
occ_once (x ∷ xs) k (suc i) (suc j) h l e e' = ap suc (occ_once xs k i j (omega (arith, occ_tail k x xs)) l e e')

-- ---- sum_over

pub sum_over_occ : (m : ℕ) (ks : List ℕ) (g : ℕ → ℕ) → InRange ks m → sum_over ks g ≡ sum_to m (λ k. occ k ks * g k)
unfolding sum_over occ
sum_over_occ m [] g h = sym (sum_to_zero m (λ k. 0 * g k) (λ k l u. zero-mul (g k)))
sum_over_occ m (x ∷ xs) g h =
    let head = h x (occ_head x xs) in
    let pick : sum_to m (λ k. bit (eqb x k) * g k) ≡ g x = sum_to_pick m x g head.0 head.1 in
    let rest : sum_over xs g ≡ sum_to m (λ k. occ k xs * g k) = sum_over_occ m xs g (λ k l. h k (omega (arith, occ_tail k x xs))) in
    let split : sum_to m (λ k. (bit (eqb x k) + occ k xs) * g k) ≡ sum_to m (λ k. bit (eqb x k) * g k + occ k xs * g k) =
    sum_to_cong m (λ k. (bit (eqb x k) + occ k xs) * g k) (λ k. bit (eqb x k) * g k + occ k xs * g k) (λ k l u. add-mul (bit (eqb x k)) (occ k xs) (g k)) in
    let both = sum_to_add m (λ k. bit (eqb x k) * g k) (λ k. occ k xs * g k) in
    omega arith

pub sum_over_length : (ks : List ℕ) → sum_over ks (λ k. 1) ≡ length ks
unfolding sum_over
sum_over_length [] = refl
sum_over_length (x ∷ xs) = omega (arith, sum_over_length xs)

-- a list is as long as its members are counted
pub occ_length : (m : ℕ) (ks : List ℕ) → InRange ks m → sum_to m (λ k. occ k ks) ≡ length ks
occ_length m ks h =
    sum_to_cong m (λ k. occ k ks) (λ k. occ k ks * 1) (λ k l u. sym (mul-one (occ k ks))) ∙ sym (sum_over_occ m ks (λ k. 1) h) ∙ sum_over_length ks

-- ---- a list of zeros

pub replicate_zero : (n k : ℕ) → ◌≡◌ {A = ℕ} (get_or (replicate n 0) k 0) 0
replicate_zero zero k = refl
replicate_zero (suc n) zero = refl
replicate_zero (suc n) (suc k) = replicate_zero n k
