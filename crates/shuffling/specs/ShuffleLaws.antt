-- Laws of the states.
--   xored_masked     == what a shift left would lose may be masked off before it
--   moved_on_small    == a state of 32 bits is followed by one
--   moved_on_zero     == 0 is followed by 0, which is why seed 0 is refused
--   moved_on_never_zero   == the state never becomes 0 from another
-- Assumes nothing.
use Rattle.std.specs.Prelude.{ℕ, zero, suc, ◌+◌, ◌-◌, ◌*◌, ◌/◌, ◌%◌, ◌^◌, ◌<◌, ◌≡◌, refl}
use Rattle.std.proofs.Common.{sym, ap, ◌∙◌, arith, mod-lt, mod-eq_of_lt, mul-one, mul_assoc, pow-suc, add-mul, mul_comm, div-add-mod', pow_pos, pow-add}
use Rattle.std.proofs.Math.Nat.{mul-mod_left, pow-zero, mul-add-mod_self_right}
use Rattle.std.specs.Int.Bits.{bit_xor, bit_and, xor_add_and}
use Rattle.std.proofs.lemmas.Nat.{and_mask, xor_lt, and_le_l, and_le_r, shr_le}
use Rattle.shuffling.specs.Shuffle.{width, shifted_left, shifted_right, xored_left, xored_right, moved_on}

-- ---- 32 bits

left_small : (k x : ℕ) → x < 2 ^ width → xored_left k x < 2 ^ width
left_small k x u = xor_lt width x (shifted_left k x) u (mod-lt (x * 2 ^ k) (pow_pos width))

right_small : (k x : ℕ) → x < 2 ^ width → xored_right k x < 2 ^ width
right_small k x u = xor_lt width x (shifted_right k x) u (omega (arith, shr_le x k))

pub moved_on_small : (x : ℕ) → x < 2 ^ width → moved_on x < 2 ^ width
unfolding moved_on
moved_on_small x u = left_small 5 (xored_right 17 (xored_left 13 x)) (right_small 17 (xored_left 13 x) (left_small 13 x u))

-- ---- masks

pub xored_masked : (j k x : ℕ) → j + k ≡ width → bit_xor x (bit_and x (2 ^ j - 1) * 2 ^ k % 2 ^ width) ≡ xored_left k x
xored_masked j k x e = ap (bit_xor x) (ap (λ (y : ℕ). y * 2 ^ k % 2 ^ width) (and_mask x j) ∙ low)
  where
    whole : 2 ^ j * 2 ^ k ≡ 2 ^ width
    whole = sym (pow-add 2 j k) ∙ ap (λ (i : ℕ). 2 ^ i) e

    parts : x * 2 ^ k ≡ x / 2 ^ j * 2 ^ width + x % 2 ^ j * 2 ^ k
    parts =
        ap (λ (y : ℕ). y * 2 ^ k) (sym (div-add-mod' x (2 ^ j))) ∙ add-mul (x / 2 ^ j * 2 ^ j) (x % 2 ^ j) (2 ^ k)
        ∙ ap (λ (y : ℕ). y + x % 2 ^ j * 2 ^ k) (mul_assoc (x / 2 ^ j) (2 ^ j) (2 ^ k) ∙ ap (λ (y : ℕ). x / 2 ^ j * y) whole)

    low : x % 2 ^ j * 2 ^ k % 2 ^ width ≡ x * 2 ^ k % 2 ^ width
    low = sym (ap (λ (y : ℕ). y % 2 ^ width) parts ∙ mul-add-mod_self_right (x / 2 ^ j) (2 ^ width) (x % 2 ^ j * 2 ^ k))

-- ---- 0

pub moved_on_zero : moved_on 0 ≡ 0
unfolding moved_on
moved_on_zero = refl

-- only equal numbers are xored to 0
xor_same : (a b : ℕ) → bit_xor a b ≡ 0 → a ≡ b
xor_same a b e = omega (arith, xor_add_and a b, and_le_l a b, and_le_r a b)

mod_mul_mod : (a m w : ℕ) → a % w * m % w ≡ a * m % w
mod_mul_mod a m w =
    sym
    (ap (λ (y : ℕ). y * m % w) (sym (div-add-mod' a w))
    ∙ ap (λ (y : ℕ). y % w) (add-mul (a / w * w) (a % w) m ∙ ap (λ (y : ℕ). y + a % w * m) (swap (a / w) w m))
    ∙ mul-add-mod_self_right (a / w * m) w (a % w * m))
  where
    swap : (x y z : ℕ) → x * y * z ≡ x * z * y
    swap x y z = mul_assoc x y z ∙ ap (λ (i : ℕ). x * i) (mul_comm y z) ∙ sym (mul_assoc x z y)

-- a state that a shift left by k keeps as it is: so do i shifts, and with these every bit is past 32
kept : (k x : ℕ) → x ≡ x * 2 ^ k % 2 ^ width → (i : ℕ) → x < 2 ^ width → x ≡ x * (2 ^ k) ^ i % 2 ^ width
kept k x e zero u = sym (ap (λ (y : ℕ). x * y % 2 ^ width) (pow-zero (2 ^ k)) ∙ ap (λ (y : ℕ). y % 2 ^ width) (mul-one x) ∙ mod-eq_of_lt u)
kept k x e (suc i) u =
    let m : ℕ = 2 ^ k in
    let w : ℕ = 2 ^ width in
    e ∙ ap (λ (y : ℕ). y * m % w) (kept k x e i u) ∙ mod_mul_mod (x * m ^ i) m w
    ∙ ap (λ (y : ℕ). y % w) (mul_assoc x (m ^ i) m ∙ ap (λ (y : ℕ). x * y) (sym (pow-suc m i)))

left_never : (k i j : ℕ) → (2 ^ k) ^ i ≡ 2 ^ j * 2 ^ width → (x : ℕ) → x < 2 ^ width → xored_left k x ≡ 0 → x ≡ 0
left_never k i j f x u e =
    kept k x (xor_same x (shifted_left k x) e) i u ∙ ap (λ (y : ℕ). x * y % 2 ^ width) f
    ∙ ap (λ (y : ℕ). y % 2 ^ width) (sym (mul_assoc x (2 ^ j) (2 ^ width))) ∙ mul-mod_left (x * 2 ^ j) (2 ^ width)

right_never : (x : ℕ) → xored_right 17 x ≡ 0 → x ≡ 0
right_never x e = let f : x ≡ x / 2 ^ 17 = xor_same x (shifted_right 17 x) e in omega arith

pub moved_on_never_zero : (x : ℕ) → x < 2 ^ width → moved_on x ≡ 0 → x ≡ 0
unfolding moved_on
moved_on_never_zero x u e =
    left_never 13 3 7 refl x u
    (right_never (xored_left 13 x)
    (left_never 5 7 3 refl (xored_right 17 (xored_left 13 x)) (right_small 17 (xored_left 13 x) (left_small 13 x u)) e))
