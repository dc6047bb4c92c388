-- The parts of a sum and of a difference, above and below zero, without minus.
--   parts_sum, parts_sum_below     == the parts of x + y from those of x and of y; what lies below zero does not grow
--   parts_diff, parts_diff_below   == the parts of new minus old, of two numbers
--   parts_pos   == an integer whose parts are those of a number
-- Assumes nothing.
use Rattle.std.specs.Prelude.{ℕ, zero, suc, ◌+◌, ◌-◌, ◌≤◌, cond, ◌≡◌, ltb, ℤ, pos, negsuc, ◌+ℤ◌, ◌-ℤ◌}
use Rattle.std.proofs.Common.{ap, arith, ltb-true, ltb-false}
use Rattle.std.proofs.Math.IntN.{sub_ℕ}
use Rattle.base.specs.ChoiceLaws.{tested}
use Rattle.base.specs.Checks.{Tested, passed, failed}
use Rattle.base.specs.Parts.{above, below}

-- a minus b, of two numbers
sub_parts : (a b : ℕ) → (above (sub_ℕ a b) + b ≡ below (sub_ℕ a b) + a) × (below (sub_ℕ a b) ≤ b - a)
sub_parts a b = at (tested (ltb a b))
  where
    at : Tested (ltb a b)
        → (above (cond (ltb a b) (negsuc (b - suc a)) (pos (a - b))) + b ≡ below (cond (ltb a b) (negsuc (b - suc a)) (pos (a - b))) + a) × (below
        (cond (ltb a b) (negsuc (b - suc a)) (pos (a - b))) ≤ b - a)
    at (passed e) = let l : suc a ≤ b = ltb-true a b e in rw e (omega arith)
    at (failed e) = let l : b ≤ a = ltb-false a b e in rw e (omega arith)

pub parts_sum : (x y : ℤ) → above (x +ℤ y) + below x + below y ≡ below (x +ℤ y) + above x + above y
parts_sum (pos a) (pos b) = omega arith
parts_sum (pos a) (negsuc b) = omega (arith, sub_parts a (suc b))
parts_sum (negsuc a) (pos b) = omega (arith, sub_parts b (suc a))
parts_sum (negsuc a) (negsuc b) = omega arith

pub parts_sum_below : (x y : ℤ) → below (x +ℤ y) ≤ below x + below y
parts_sum_below (pos a) (pos b) = omega arith
parts_sum_below (pos a) (negsuc b) = omega (arith, sub_parts a (suc b))
parts_sum_below (negsuc a) (pos b) = omega (arith, sub_parts b (suc a))
parts_sum_below (negsuc a) (negsuc b) = omega arith

pub parts_diff : (v u : ℕ) → above (pos v -ℤ pos u) + u ≡ below (pos v -ℤ pos u) + v
parts_diff v zero = omega arith
parts_diff v (suc u) = omega (arith, sub_parts v (suc u))

pub parts_diff_below : (v u : ℕ) → below (pos v -ℤ pos u) ≤ u - v
parts_diff_below v zero = omega arith
parts_diff_below v (suc u) = omega (arith, sub_parts v (suc u))

pub parts_pos : (z : ℤ) (n : ℕ) → above z ≡ below z + n → z ≡ pos n
parts_pos (pos k) n e = ap pos (omega arith)
parts_pos (negsuc k) n e = absurd (omega arith)
