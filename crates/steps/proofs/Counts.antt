-- Counts and sums as signed 32-bit numbers.
--   signed_back                    == a signed local read back is the number that was put there
--   small_back                     == what is_small says of a count that was read back, it says of the count
--   mag_abs, small_fits            == a count in range fits 32 bits
--   small_below, small_test        == what the two tests of the range say of it
--   small_sum                      == the sum of two counts in range fits 32 bits
--   small_change                   == new minus old of two flags is a count in range
--   flag_back                      == a flag cast to a signed number is that number
--   both_small_parts                     == the parts of both_small
--   new_subordinate_flag            == the new subordinate is 0 or 1
--   new_subordinate_product         == of two flags it is succeeding times (1 minus preceding)
-- Assumes nothing.
use Prim.Native.Nat.{ℕ, zero, suc, ◌+◌, ◌-◌, ◌*◌, ◌^◌, ◌≤◌, ◌<◌}
use mathlib.Core.Bool.{Bool, true, false, false≢true, cond, ◌&&◌}
use mathlib.Core.Path.{◌≡◌, refl, sym}
use native.Mathlib.Nat.{mul-add}
use native.Mathlib.Omega.{arith}
use lib.Dec.{eqb, ltb}
use lib.IntN.{ℤ, pos, negsuc, sub_ℕ, ◌+ℤ◌, ◌-ℤ◌, nat_abs}
use lib.Signed.{mag, lt_z, le_z}
use mir.Syntax.{w32}
use mir.Val.{to_z, of_z}
use mir.Facts.{to_z-of_z}
use borrow.Author.Tests.{leb-true, le-leb, lt-leb, ltb-true, ltb-false}
use Rattle.base.specs.ChoiceLaws.{tested, and_left, and_right}
use Rattle.base.specs.Checks.{Tested, passed, failed}
use Rattle.base.specs.Choice.{choose}
use Rattle.steps.specs.declared.Process.{Process}
use Rattle.steps.specs.declared.TwoCounts.{TwoCounts}
use Rattle.steps.specs.Step.{most_count, small, both_small, new_subordinate}
use Rattle.steps.specs.StepLaws.{new_subordinate_both}

pub signed_back : (z : ℤ) → mag z < 2 ^ 31 → to_z w32 (of_z w32 z) ≡ z
signed_back z h = to_z-of_z {w = w32} {z = z} (record { sfits = h })

pub small_back : {b : Bool} (z : ℤ) → mag z < 2 ^ 31 → b ≡ small (to_z w32 (of_z w32 z)) → b ≡ small z
small_back z h e = rw (signed_back z h) at e

small_mag : (z : ℤ) → small z ≡ true → nat_abs z ≤ most_count
unfolding small
small_mag z e = leb-true (nat_abs z) most_count e

pub mag_abs : (z : ℤ) → mag z ≤ nat_abs z
mag_abs (pos n) = omega arith
mag_abs (negsuc n) = omega arith

pub small_fits : (z : ℤ) → small z ≡ true → mag z < 2 ^ 31
small_fits z e = omega (arith, small_mag z e, mag_abs z)

pub small_below : (z : ℤ) → lt_z z (negsuc (most_count - 1)) ≡ true → small z ≡ false
unfolding small
small_below (pos n) e = absurd (false≢true e)
small_below (negsuc n) e = lt-leb (suc n) most_count (omega (arith, ltb-true (most_count - 1) n e))

pub small_test : (z : ℤ) → lt_z z (negsuc (most_count - 1)) ≡ false → le_z z (pos most_count) ≡ small z
unfolding small
small_test (pos n) e = refl
small_test (negsuc n) e = sym (le-leb (suc n) most_count (omega (arith, ltb-false (most_count - 1) n e)))

sub_abs : (a b : ℕ) → nat_abs (sub_ℕ a b) ≤ a + b
sub_abs a b = at (tested (ltb a b))
  where
    at : Tested (ltb a b) → nat_abs (cond (ltb a b) (negsuc (b - suc a)) (pos (a - b))) ≤ a + b
    at (passed e) = rw e (omega (arith, ltb-true a b e))
    at (failed e) = rw e (omega arith)

sum_abs : (x y : ℤ) → nat_abs (x +ℤ y) ≤ nat_abs x + nat_abs y
sum_abs (pos a) (pos b) = omega arith
sum_abs (pos a) (negsuc b) = sub_abs a (suc b)
sum_abs (negsuc a) (pos b) = omega (arith, sub_abs b (suc a))
sum_abs (negsuc a) (negsuc b) = omega arith

pub small_sum : (x y : ℤ) → small x ≡ true → small y ≡ true → mag (x +ℤ y) < 2 ^ 31
small_sum x y p q = omega (arith, small_mag x p, small_mag y q, sum_abs x y, mag_abs (x +ℤ y))

pub small_change : (new old : ℕ) → new ≤ 1 → old ≤ 1 → small (pos new -ℤ pos old) ≡ true
unfolding small
small_change new zero p q = le-leb (new + 0) most_count (omega arith)
small_change new (suc old) p q = le-leb (nat_abs (sub_ℕ new (suc old))) most_count (omega (arith, sub_abs new (suc old)))

pub both_small_parts : (c : TwoCounts) → both_small c ≡ true → (small c.count ≡ true) × (small c.second ≡ true)
unfolding both_small
both_small_parts c e = (and_left (small c.count) (small c.second) e, and_right (small c.count) (small c.second) e)

-- a flag as a signed number
pub flag_back : (v : ℕ) → v ≤ 1 → to_z w32 v ≡ pos v
flag_back v h = signed_back (pos v) (omega arith)

-- the new subordinate is a flag
pub new_subordinate_flag : (x : Process) → new_subordinate x ≤ 1
unfolding new_subordinate
new_subordinate_flag x = at (eqb x.succeeding 1 && eqb x.preceding 0)
  where
    at : (b : Bool) → choose b 1 0 ≤ 1
    at true = omega arith
    at false = omega arith

-- 02, N2: "new subordinate is succeeding times (1 minus preceding)"
pub new_subordinate_product : (x : Process) → x.succeeding ≤ 1 → x.preceding ≤ 1 → x.succeeding * (1 - x.preceding) ≡ new_subordinate x
new_subordinate_product x h k =
    let whole : 1 - x.preceding + x.preceding ≡ 1 = omega arith in
    let parts = rw whole at (mul-add x.succeeding (1 - x.preceding) x.preceding) in
    omega (arith, new_subordinate_both x h k)
