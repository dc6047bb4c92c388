-- How the code reads and changes the words of a set.
--   low_is, high_is          == the lowest of a set, by its first word, and by its second
--   trailing_fits            == a number of digits is small
--   word_read, word_put      == the word that has p's digit, as it is read and put
-- Assumes nothing.
use Rattle.std.proofs.Common.{ℕ, ◌+◌, ◌^◌, ◌≤◌, List, ◌≡◌, ap, ap₂, eq-eqb, ne_eqb, get_or, set}
use Rattle.std.specs.Int.Count.{count_trailing_zeros}
use lib.Count.{trailing_le}
use Rattle.sets.specs.Sets.{word_digits, word_at, digit_of, word, lowest_of}

-- ---- the lowest of a set

pub trailing_fits : (w : ℕ) → count_trailing_zeros word_digits w ≤ word_digits
trailing_fits w = trailing_le word_digits w

module _ (low high : ℕ) where
  pub low_is : (low ≡ 0 → ⊥) → count_trailing_zeros word_digits low + 1 ≡ lowest_of low high
  unfolding lowest_of
  low_is h = rw (ne_eqb low 0 h)

  pub high_is : low ≡ 0 → count_trailing_zeros word_digits high + (word_digits + 1) ≡ lowest_of low high
  unfolding lowest_of
  high_is h = rw (eq-eqb low 0 h)

-- ---- one word of a set

-- p's word as it is read, and as it is put by a sum or a difference
module _ (l : List ℕ) (j p : ℕ) {i : ℕ} (e : i ≡ word_at j p) where
  pub word_read : get_or l i 0 ≡ word l j p
  word_read = ap (λ (x : ℕ). get_or l x 0) e

  pub word_put : (op : ℕ → ℕ → ℕ) {v : ℕ} → v ≡ 2 ^ digit_of p → set l i (op (get_or l i 0) v) ≡ set l (word_at j p) (op (word l j p) (2 ^ digit_of p))
  word_put op f = ap₂ (λ (x y : ℕ). set l x (op (get_or l x 0) y)) e f
