-- Laws of sets as digits.
--   digits_cong       == the same digits, the same word
--   digits_none       == where all digits are 0, the word is
--   digits_small      == a word of k digits is below 2 ^ k
--   digits-set        == one digit more is 1
--   digits_test       == one digit, by shifting it down
--   digits_trailing   == below its lowest 1 all digits are 0
--   Least, digits_least   == the lowest 1 of a word that is not 0, and the word without it
-- Assumes nothing.
use Rattle.std.specs.Prelude.{ℕ, zero, suc, ◌+◌, ◌-◌, ◌*◌, ◌/◌, ◌%◌, ◌^◌, ◌≤◌, ◌<◌, min, Bool, true, false, ◌≡◌, refl}
use Rattle.std.proofs.Common.{sym, ap, ap₂, ◌∙◌, subst, arith, pow-suc, div-one, shr-shr}
use Rattle.std.specs.Int.Bits.{bit_and, and_step, and_self}
use Rattle.std.specs.Int.Count.{under, count_trailing_zeros}
use Rattle.base.specs.Choice.{bit}
use Rattle.sets.specs.Digits.{digits}

pub digits_cong : (k : ℕ) (f g : ℕ → Bool) → ((i : ℕ) → i < k → f i ≡ g i) → digits k f ≡ digits k g
unfolding digits
digits_cong zero f g h = refl
digits_cong (suc k) f g h =
    rw (h 0 (omega arith), digits_cong k (λ i. f (suc i)) (λ i. g (suc i)) (λ i u. h (suc i) (omega arith)))

pub digits_none : (k : ℕ) (f : ℕ → Bool) → ((i : ℕ) → i < k → f i ≡ false) → digits k f ≡ 0
unfolding digits
digits_none zero f h = refl
digits_none (suc k) f h = rw (h 0 (omega arith), digits_none k (λ i. f (suc i)) (λ i u. h (suc i) (omega arith)))

-- bit (f 0) is 0 or 1
low : (b : Bool) (x : ℕ) → ((bit b + 2 * x) % 2 ≡ bit b) × ((bit b + 2 * x) / 2 ≡ x)
low true x = (omega arith, omega arith)
low false x = (omega arith, omega arith)

pub digits_small : (k : ℕ) (f : ℕ → Bool) → digits k f < 2 ^ k
unfolding digits
digits_small zero f = omega arith
digits_small (suc k) f = at (f 0) (digits_small k (λ i. f (suc i)))
  where
    at : (b : Bool) {x : ℕ} → x < 2 ^ k → bit b + 2 * x < 2 ^ suc k
    at true u = omega (arith, pow-suc 2 k)
    at false u = omega (arith, pow-suc 2 k)

pub digits-set
    : (k : ℕ) (f g : ℕ → Bool) (j : ℕ) → j < k → f j ≡ false → g j ≡ true → ((i : ℕ) → i < k → (i ≡ j → ⊥) → f i ≡ g i)
    → digits k g ≡ digits k f + 2 ^ j
unfolding digits
digits-set zero f g j u e t h = absurd (omega arith)
digits-set (suc k) f g zero u e t h =
    let s = digits_cong k (λ i. f (suc i)) (λ i. g (suc i)) (λ i v. h (suc i) (omega arith) (λ z. absurd (omega arith))) in
    rw (e, t, s) (omega arith)
digits-set (suc k) f g (suc j) u e t h =
    let s = digits-set k (λ i. f (suc i)) (λ i. g (suc i)) j (omega arith) e t (λ i v z. h (suc i) (omega arith) (λ y. z (omega arith))) in
    rw (h 0 (omega arith) (λ z. absurd (omega arith)), s) (omega (arith, pow-suc 2 j))

-- one digit, shifted down to the lowest
pub digits_test : (k : ℕ) (f : ℕ → Bool) (j : ℕ) → j < k → digits k f / 2 ^ j % 2 ≡ bit (f j)
unfolding digits
digits_test zero f j u = absurd (omega arith)
digits_test (suc k) f zero u = ap (λ (x : ℕ). x % 2) (div-one (digits (suc k) f)) ∙ (low (f 0) (digits k (λ i. f (suc i)))).0
digits_test (suc k) f (suc j) u =
    let x : ℕ = digits k (λ i. f (suc i)) in
    let split : (bit (f 0) + 2 * x) / 2 ^ 1 / 2 ^ j ≡ (bit (f 0) + 2 * x) / 2 ^ (1 + j) = shr-shr (bit (f 0) + 2 * x) 1 j in
    let up : 1 + j ≡ suc j = omega arith in
    let half : (bit (f 0) + 2 * x) / 2 ≡ x = (low (f 0) x).1 in
    ap (λ (i : ℕ). (bit (f 0) + 2 * x) / 2 ^ i % 2) (sym up) ∙ ap (λ (i : ℕ). i % 2) (sym split) ∙ ap (λ (i : ℕ). i / 2 ^ j % 2) half
    ∙ digits_test k (λ i. f (suc i)) j (omega arith)

-- the digits below the lowest 1: of the first digit and the rest
module _ (k : ℕ) (f : ℕ → Bool) where
  abbrev Trails : ℕ → Type 0
  Trails t = (t ≤ k) × ((i : ℕ) → i < t → f i ≡ false)

trails_next : (k : ℕ) (f : ℕ → Bool) (b : Bool) → f 0 ≡ b → {t : ℕ} → Trails k (λ i. f (suc i)) t → Trails (suc k) f (under (bit b) t)
trails_next k f true e h = (omega arith, λ i u. absurd (omega arith))
trails_next k f false e {t} h = (omega (arith, h.0), at)
  where
    at : (i : ℕ) → i < suc t → f i ≡ false
    at zero u = e
    at (suc i) u = h.1 i (omega arith)

pub digits_trailing : (k : ℕ) (f : ℕ → Bool) → Trails k f (count_trailing_zeros k (digits k f))
unfolding digits count_trailing_zeros
digits_trailing zero f = (omega arith, λ i u. absurd (omega arith))
digits_trailing (suc k) f =
    let x : ℕ = digits k (λ i. f (suc i)) in
    let whole : Trails (suc k) f (under (bit (f 0)) (count_trailing_zeros k x)) = trails_next k f (f 0) refl (digits_trailing k (λ i. f (suc i))) in
    subst (λ (i : ℕ). Trails (suc k) f i) (sym (ap₂ (λ (d y : ℕ). under d (count_trailing_zeros k y)) (low (f 0) x).0 (low (f 0) x).1)) whole

-- ---- the lowest 1 struck out

pub record Least (k : ℕ) (f : ℕ → Bool) (w : ℕ) : Type 0 where
  pub at : ℕ
  pub within : at < k
  pub is : f at ≡ true
  pub below : (i : ℕ) → i < at → f i ≡ false
  pub trails : count_trailing_zeros k w ≡ at
  pub struck : (g : ℕ → Bool) → g at ≡ false → ((i : ℕ) → i < k → (i ≡ at → ⊥) → f i ≡ g i) → bit_and w (w - 1) ≡ digits k g

least_one : (k : ℕ) (f : ℕ → Bool) → f 0 ≡ true → Least (suc k) f (digits (suc k) f)
unfolding digits count_trailing_zeros
least_one k f e =
    let x : ℕ = digits k (λ i. f (suc i)) in
    record {
      at = 0;
      within = omega arith;
      is = e;
      below = λ i u. absurd (omega arith);
      trails = rw e (ap₂ (λ (d y : ℕ). under d (count_trailing_zeros k y)) (low true x).0 (low true x).1);
      struck = λ g z h.
          rw e (and_step (1 + 2 * x) (1 + 2 * x - 1)
          ∙ ap₂ (λ (y d : ℕ). y * 2 + d) (ap₂ bit_and (half_one x) (half_even x) ∙ and_self x) (ap₂ min (odd_one x) (odd_even x))
          ∙ rw (z, sym (digits_cong k (λ i. f (suc i)) (λ i. g (suc i)) (λ i u. h (suc i) (omega arith) (λ v. absurd (omega arith))))) (omega arith));
    }
  where
    half_one : (x : ℕ) → (1 + 2 * x) / 2 ≡ x
    half_one x = omega arith

    half_even : (x : ℕ) → (1 + 2 * x - 1) / 2 ≡ x
    half_even x = omega arith

    odd_one : (x : ℕ) → (1 + 2 * x) % 2 ≡ 1
    odd_one x = omega arith

    odd_even : (x : ℕ) → (1 + 2 * x - 1) % 2 ≡ 0
    odd_even x = omega arith

least_more : (k : ℕ) (f : ℕ → Bool) → f 0 ≡ false → Least k (λ i. f (suc i)) (digits k (λ i. f (suc i))) → (digits k (λ i. f (suc i)) ≡ 0 → ⊥)
    → Least (suc k) f (digits (suc k) f)
unfolding digits count_trailing_zeros
least_more k f e h n =
    let x : ℕ = digits k (λ i. f (suc i)) in
    record {
      at = suc h.at;
      within = omega (arith, h.within);
      is = h.is;
      below = under_it;
      trails = rw e (ap₂ (λ (d y : ℕ). under d (count_trailing_zeros k y)) (low false x).0 (low false x).1 ∙ ap suc h.trails);
      struck = λ g z same.
          rw e (and_step (0 + 2 * x) (0 + 2 * x - 1)
          ∙ ap₂ (λ (y d : ℕ). y * 2 + d) (ap₂ bit_and (half x) (half_less x n)) (ap₂ min (even x) (odd x n))
          ∙ rw (
            h.struck (λ i. g (suc i)) z (λ i u v. same (suc i) (omega arith) (λ w. v (omega arith))),
            sym (same 0 (omega arith) (λ v. absurd (omega arith))),
            e,
          ) (omega arith));
    }
  where
    under_it : (i : ℕ) → i < suc h.at → f i ≡ false
    under_it zero u = e
    under_it (suc i) u = h.below i (omega arith)

    half : (x : ℕ) → (0 + 2 * x) / 2 ≡ x
    half x = omega arith

    half_less : (x : ℕ) → (x ≡ 0 → ⊥) → (0 + 2 * x - 1) / 2 ≡ x - 1
    half_less x n = omega (arith, n)

    even : (x : ℕ) → (0 + 2 * x) % 2 ≡ 0
    even x = omega arith

    odd : (x : ℕ) → (x ≡ 0 → ⊥) → (0 + 2 * x - 1) % 2 ≡ 1
    odd x n = omega (arith, n)

pub digits_least : (k : ℕ) (f : ℕ → Bool) → (digits k f ≡ 0 → ⊥) → Least k f (digits k f)
unfolding digits
digits_least zero f n = absurd (n refl)
digits_least (suc k) f n = by (f 0) refl (λ m. digits_least k (λ i. f (suc i)) m)
  where
    by : (b : Bool) → f 0 ≡ b → ((digits k (λ i. f (suc i)) ≡ 0 → ⊥) → Least k (λ i. f (suc i)) (digits k (λ i. f (suc i))))
        → Least (suc k) f (digits (suc k) f)
    by true e rest = least_one k f e
    by false e rest =
        let m : digits k (λ i. f (suc i)) ≡ 0 → ⊥ = λ z. n (rw (e, z) refl) in
        least_more k f e (rest m) m
