-- Sums, tests and searches over the numbers 1 to n.
--   sum_to n f      == f 1 + .. + f n
--   count_to n p    == how many of 1 to n pass the test p
--   all_to n p      == each of 1 to n passes the test p
--   any_to n p      == some of 1 to n passes the test p
--   or_next e k     == e, or k if e is 0
--   lowest_to n p   == the lowest of 1 to n that passes the test p, 0 if none does
--   spot i v k     == v at the index i, and 0 at every other
--   Found n p, Part n f   == one of 1 to n that passes the test p, or where f is above 0
--   HowMany P n k  == k of the numbers 1 to n have P: count_to for what is no test
--   Lowest P n e   == e is the lowest of 1 to n that has P, 0 if none has: lowest_to for what is no test
-- Assumes nothing.
use Rattle.std.specs.Prelude.{ℕ, zero, suc, ◌+◌, ◌≤◌, ◌<◌, Bool, true, false, ◌&&◌, ◌||◌, ◌≡◌, eqb}
use Rattle.base.specs.Choice.{choose, bit}

unfoldable pub sum_to : ℕ → (ℕ → ℕ) → ℕ
sum_to zero f = 0
sum_to (suc n) f = sum_to n f + f (suc n)

unfoldable pub count_to : ℕ → (ℕ → Bool) → ℕ
count_to n p = sum_to n (λ k. bit (p k))

unfoldable pub all_to : ℕ → (ℕ → Bool) → Bool
all_to zero p = true
all_to (suc n) p = all_to n p && p (suc n)

unfoldable pub any_to : ℕ → (ℕ → Bool) → Bool
any_to zero p = false
any_to (suc n) p = any_to n p || p (suc n)

abbrev pub or_next : ℕ → ℕ → ℕ
or_next zero k = k
or_next (suc e) k = suc e

unfoldable pub lowest_to : ℕ → (ℕ → Bool) → ℕ
lowest_to zero p = 0
lowest_to (suc n) p = or_next (lowest_to n p) (choose (p (suc n)) (suc n) 0)

unfoldable pub spot : ℕ → ℕ → ℕ → ℕ
spot i v k = choose (eqb k i) v 0

pub data HowMany (P : ℕ → Type 0) : ℕ → ℕ → Type 0 where
  none : HowMany P 0 0
  one_more : {n k : ℕ} → HowMany P n k → P (suc n) → HowMany P (suc n) (suc k)
  no_more : {n k : ℕ} → HowMany P n k → (P (suc n) → ⊥) → HowMany P (suc n) k

pub data Lowest (P : ℕ → Type 0) (n : ℕ) : ℕ → Type 0 where
  at_first : {e : ℕ} → 1 ≤ e → e ≤ n → P e → ((k : ℕ) → 1 ≤ k → k < e → P k → ⊥) → Lowest P n e
  at_none : ((k : ℕ) → 1 ≤ k → k ≤ n → P k → ⊥) → Lowest P n 0

pub record Found (n : ℕ) (p : ℕ → Bool) : Type 0 where
  pub at : ℕ
  pub low : 1 ≤ at
  pub high : at ≤ n
  pub passes : p at ≡ true

pub record Part (n : ℕ) (f : ℕ → ℕ) : Type 0 where
  pub at : ℕ
  pub low : 1 ≤ at
  pub high : at ≤ n
  pub some : 1 ≤ f at
