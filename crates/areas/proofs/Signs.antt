-- Words as signed 32-bit numbers: what the machine's bits say of them.
--   word_read                == what a call says of a word that was read back, it says of the word
--   word_number              == a number below 2 to the 31 is itself as a word
--   word_is                  == the bits of a number are the bits of no other word
--   word_zero                == the bits of the word 0 are 0
--   word_none, word_some     == bits that are 0 are those of the word 0, and others are not
--   word_not                 == other bits are those of another word
--   word_same                == two words have the same bits exactly if they are the same
--   counts_read, counts_as   == a word of 0 or more is one when it is read back; a number is one
--   word_high, word_low, word_low_number   == a word that is not below 0, and one that is
-- Assumes nothing.
use Prim.Native.Nat.{ℕ, suc, ◌+◌, ◌-◌, ◌^◌, ◌<◌}
use mathlib.Core.Bool.{true, false, ◌&&◌, false≢true}
use mathlib.Core.Path.{◌≡◌, refl, sym, ap, ◌∙◌}
use native.Mathlib.Omega.{arith}
use lib.Dec.{T, eqb, leb, leb-zero}
use lib.IntN.{ℤ, pos, negsuc, ◌-ℤ◌, nat_abs}
use lib.Signed.{mag, le_z, non_neg}
use mir.Syntax.{w32}
use mir.Val.{to_z, of_z}
use borrow.Author.Tests.{eq-eqb, ne_eqb, le-ltb}
use Rattle.base.specs.ChoiceLaws.{same?}
use Rattle.base.specs.Checks.{Same, same, apart}
use Rattle.steps.proofs.Counts.{signed_back}
use Rattle.areas.specs.Used.{Counts}
use Rattle.areas.specs.Area.{same_word}
use Rattle.areas.specs.WordTestLaws.{both_leb}

pub word_read : {A : Type 0} {r : A} (f : ℤ → A) (z : ℤ) → mag z < 2 ^ 31 → r ≡ f (to_z w32 (of_z w32 z)) → r ≡ f z
word_read f z h e = e ∙ ap f (signed_back z h)

pub word_number : (n : ℕ) → n < 2 ^ 31 → to_z w32 n ≡ pos n
word_number n h = signed_back (pos n) h

pub word_is : (z : ℤ) (n : ℕ) → mag z < 2 ^ 31 → n < 2 ^ 31 → of_z w32 z ≡ n → z ≡ pos n
word_is (pos a) n h k e = ap pos e
word_is (negsuc a) n h k e = absurd (omega arith)

pub word_zero : (z : ℤ) → nat_abs z ≡ 0 → of_z w32 z ≡ 0
word_zero (pos n) e = e
word_zero (negsuc n) e = absurd (omega arith)

pub word_none : (z : ℤ) → mag z < 2 ^ 31 → of_z w32 z ≡ 0 → z ≡ pos 0
word_none z h e = word_is z 0 h (omega arith) e

pub word_some : (z : ℤ) → (of_z w32 z ≡ 0 → ⊥) → z ≡ pos 0 → ⊥
word_some z h e = h (ap (of_z w32) e)

pub word_not : (z : ℤ) (n : ℕ) → (of_z w32 z ≡ n → ⊥) → same_word z (pos n) ≡ false
unfolding same_word
word_not (pos a) n h = both_leb a n ∙ ne_eqb a n h
word_not (negsuc a) n h = refl

pub word_same : (x y : ℤ) → mag x < 2 ^ 31 → mag y < 2 ^ 31 → eqb (of_z w32 x) (of_z w32 y) ≡ same_word x y
unfolding same_word
word_same (pos a) (pos b) h k = sym (both_leb a b)
word_same (pos a) (negsuc b) h k = ne_eqb a (2 ^ 32 - suc b) (λ e. omega arith)
word_same (negsuc a) (pos b) h k = ne_eqb (2 ^ 32 - suc a) b (λ e. omega arith)
word_same (negsuc a) (negsuc b) h k = at (same? a b)
  where
    at : Same a b → eqb (2 ^ 32 - suc a) (2 ^ 32 - suc b) ≡ (leb b a && leb a b)
    at (same e q) = rw e (eq-eqb (2 ^ 32 - suc b) (2 ^ 32 - suc b) refl ∙ sym (both_leb b b ∙ eq-eqb b b refl))
    at (apart e q) = ne_eqb (2 ^ 32 - suc a) (2 ^ 32 - suc b) (λ p. e (omega arith)) ∙ sym (both_leb b a ∙ ne_eqb b a (λ p. e (sym p)))

pub counts_read : (z : ℤ) → mag z < 2 ^ 31 → Counts z → Counts (to_z w32 (of_z w32 z))
counts_read z h e = rw (signed_back z h) e

pub counts_as : (z : ℤ) (n : ℕ) → z ≡ pos n → Counts z
counts_as z n e = rw e

pub word_high : (z : ℤ) → le_z (pos 0) z ≡ true → T (non_neg z)
word_high (pos n) e = tt
word_high (negsuc n) e = absurd (false≢true e)

-- a word below 0 is -1 less a number
pub word_low : (z : ℤ) → le_z (pos 0) z ≡ false → negsuc 0 -ℤ z ≡ pos (mag z)
word_low (pos n) e = absurd (false≢true (sym e ∙ leb-zero n))
word_low (negsuc n) e = rw (le-ltb (suc n) 1 (omega arith)) (ap pos (omega arith))

pub word_low_number : (z : ℤ) → le_z (pos 0) z ≡ false → nat_abs z ≡ mag z + 1
word_low_number (pos n) e = absurd (false≢true (sym e ∙ leb-zero n))
word_low_number (negsuc n) e = omega arith
