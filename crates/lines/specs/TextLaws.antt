-- Laws of printed numbers.
--   decimal_to_fuel              == any two first numbers above n give the digits of n
--   decimal_step                == a number below 10 is its digit; any other is the digits of its tenth part, and then its last digit
--   decimal_one, decimal_more   == the two cases; decimal_one_length, decimal-more-length: how many digits they have
--   decimal_some                == every number has a digit
--   decimal_length              == a number below 10 ^ k has at most k digits, for k above 0
--   decimal_short               == a 32-bit number has at most 10
--   signed_high, signed_low     == a number that is not below 0 is its digits; one below 0 has a hyphen before them
-- Assumes nothing.
use Rattle.std.specs.Prelude.{ℕ, zero, suc, ◌+◌, ◌/◌, ◌%◌, ◌^◌, ◌<◌, ◌≤◌, true, false, [], ◌∷◌, ◌++◌, ◌≡◌, refl, ltb, ℤ, pos, negsuc, nat_abs, length}
use Rattle.std.proofs.lemmas.Bool.{false≢true}
use Rattle.std.proofs.Common.{sym, ◌∙◌, pow-suc, arith, length-append, lt-ltb, le-ltb, ltb-true, ltb-false}
use Rattle.std.proofs.Math.Dec.{leb-zero}
use Rattle.std.specs.Int.Signed.{le_z}
use Rattle.base.specs.Choice.{choose}
use Rattle.base.specs.ChoiceLaws.{tested}
use Rattle.base.specs.Checks.{Tested, passed, failed}
use Rattle.lines.specs.Text.{bytes, digit, decimal_to, decimal, signed}

decimal_to_fuel : (f g n : ℕ) → n < f → n < g → decimal_to f n ≡ decimal_to g n
unfolding decimal_to
decimal_to_fuel zero g n h k = absurd (omega arith)
decimal_to_fuel (suc f) zero n h k = absurd (omega arith)
decimal_to_fuel (suc f) (suc g) n h k = at (tested (ltb n 10)) (decimal_to_fuel f g (n / 10))
  where
    at : Tested (ltb n 10) → (n / 10 < f → n / 10 < g → decimal_to f (n / 10) ≡ decimal_to g (n / 10))
        → choose (ltb n 10) (digit n ∷ []) (decimal_to f (n / 10) ++ (digit (n % 10) ∷ []))
        ≡ choose (ltb n 10) (digit n ∷ []) (decimal_to g (n / 10) ++ (digit (n % 10) ∷ []))
    at (passed e) rest = rw e
    at (failed e) rest = rw (e, rest (omega (arith, ltb-false n 10 e)) (omega (arith, ltb-false n 10 e)))

decimal_step : (n : ℕ) → decimal n ≡ choose (ltb n 10) (digit n ∷ []) (decimal (n / 10) ++ (digit (n % 10) ∷ []))
unfolding decimal decimal_to
decimal_step n = at (tested (ltb n 10))
  where
    at : Tested (ltb n 10)
        → choose (ltb n 10) (digit n ∷ []) (decimal_to n (n / 10) ++ (digit (n % 10) ∷ []))
        ≡ choose (ltb n 10) (digit n ∷ []) (decimal_to (suc (n / 10)) (n / 10) ++ (digit (n % 10) ∷ []))
    at (passed e) = rw e
    at (failed e) = let h = ltb-false n 10 e in rw (e, decimal_to_fuel n (suc (n / 10)) (n / 10) (omega arith) (omega arith))

pub decimal_one : (n : ℕ) → n < 10 → decimal n ≡ digit n ∷ []
decimal_one n h = decimal_step n ∙ rw (lt-ltb n 10 h)

pub decimal_more : (n : ℕ) → 10 ≤ n → decimal n ≡ decimal (n / 10) ++ (digit (n % 10) ∷ [])
decimal_more n h = decimal_step n ∙ rw (le-ltb n 10 h)

pub decimal_one_length : (n : ℕ) → n < 10 → length (decimal n) ≡ 1
decimal_one_length n h = rw (decimal_one n h)

pub decimal_more_length : (n : ℕ) → 10 ≤ n → length (decimal n) ≡ length (decimal (n / 10)) + 1
decimal_more_length n h = rw (decimal_more n h, length-append)

pub decimal_some : (n : ℕ) → 1 ≤ length (decimal n)
decimal_some n = at (tested (ltb n 10))
  where
    at : Tested (ltb n 10) → 1 ≤ length (decimal n)
    at (passed e) = omega (arith, decimal_one_length n (ltb-true n 10 e))
    at (failed e) = omega (arith, decimal_more_length n (ltb-false n 10 e))

pub decimal_length : (k n : ℕ) → n < 10 ^ suc k → length (decimal n) ≤ suc k
decimal_length zero n h = omega (arith, decimal_one_length n h)
decimal_length (suc k) n h = at (tested (ltb n 10)) (decimal_length k (n / 10))
  where
    at : Tested (ltb n 10) → (n / 10 < 10 ^ suc k → length (decimal (n / 10)) ≤ suc k) → length (decimal n) ≤ suc (suc k)
    at (passed e) rest = omega (arith, decimal_one_length n (ltb-true n 10 e))
    at (failed e) rest = omega (arith, decimal_more_length n (ltb-false n 10 e), rest (omega (arith, ltb-false n 10 e, pow-suc 10 (suc k))))

pub decimal_short : (n : ℕ) → n < 2 ^ 32 → length (decimal n) ≤ 10
decimal_short n h = decimal_length 9 n (omega arith)

pub signed_high : (z : ℤ) → le_z (pos 0) z ≡ true → signed z ≡ decimal (nat_abs z)
unfolding signed
signed_high (pos n) e = refl
signed_high (negsuc n) e = absurd (false≢true e)

pub signed_low : (z : ℤ) → le_z (pos 0) z ≡ false → signed z ≡ bytes "-" ++ decimal (nat_abs z)
unfolding signed
signed_low (pos n) e = absurd (false≢true (sym e ∙ leb-zero n))
signed_low (negsuc n) e = refl
