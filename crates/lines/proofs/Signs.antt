-- A number with its sign, by the test whether it is below 0.
--   signed_below, signed_not_below   == a hyphen and the digits of k, or its digits alone, where k is the number without its sign
-- Assumes nothing.
use Rattle.std.proofs.Common.{ℕ, ◌++◌, ◌≡◌, sym, refl, true, false, arith, ltb-true, ℤ, pos, negsuc, nat_abs}
use Rattle.std.proofs.lemmas.Bool.{false≢true}
use Rattle.std.specs.Int.Signed.{lt_z}
use Rattle.lines.specs.Text.{bytes, decimal, signed}

below : (z : ℤ) → lt_z z (pos 0) ≡ true → signed z ≡ bytes "-" ++ decimal (nat_abs z)
unfolding signed
below (pos n) e = absurd (omega (arith, ltb-true n 0 e))
below (negsuc n) e = refl

not_below : (z : ℤ) → lt_z z (pos 0) ≡ false → signed z ≡ decimal (nat_abs z)
unfolding signed
not_below (pos n) e = refl
not_below (negsuc n) e = absurd (false≢true (sym e))

module _ {y z : ℤ} (back : y ≡ z) {k : ℕ} (is : k ≡ nat_abs y) where
  pub signed_below : lt_z y (pos 0) ≡ true → signed z ≡ bytes "-" ++ decimal k
  signed_below e = rw (← back, is) (below y e)

  pub signed_not_below : lt_z y (pos 0) ≡ false → signed z ≡ decimal k
  signed_not_below e = rw (← back, is) (not_below y e)
