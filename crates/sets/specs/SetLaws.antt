-- Laws of the sets in an array.
--   set_cong, set_off             == another test that agrees; another place of the array changed
--   set_word, is_in_is             == the word that has p's digit, and the digit
--   set_added, set_struck         == the set with p put into it, and taken out of it
--   added_fits, struck_fits       == and the word stays a word
--   lowest_in_first, lowest_of_most == below the lowest of a set none is in it; and it is at most one past all processes
-- Assumes nothing.
use Rattle.std.specs.Prelude.{ℕ, ◌+◌, ◌-◌, ◌*◌, ◌/◌, ◌%◌, ◌^◌, ◌≤◌, ◌<◌, Bool, true, List, ◌≡◌, refl, length, get_or, set}
use Rattle.std.proofs.Math.Bool.{false}
use Rattle.std.proofs.Common.{sym, ◌∙◌, arith, add-zero, get_or-set_same, get_or-set_other}
use Rattle.std.proofs.Math.Path.{ap}
use Rattle.std.proofs.Math.Dec.{eqb}
use Rattle.std.specs.Int.Count.{count_trailing_zeros, trailing_of_zero}
use Rattle.std.proofs.lemmas.Nat.{trailing_le}
use Rattle.base.specs.Choice.{choose, bit}
use Rattle.base.specs.ChoiceLaws.{same?, below?, bit_test}
use Rattle.base.specs.Checks.{Same, same, apart, Below, below, beyond}
use Rattle.tables.specs.Table.{most_processes, IsProcess}
use Rattle.sets.specs.Digits.{digits}
use Rattle.sets.specs.DigitLaws.{digits_cong, digits_small, digits-set, digits_test, digits_trailing}
use Rattle.sets.specs.Sets.{sets_size, word_digits, set_at, word_at, digit_of, SetIs, word, is_in, added_to, struck_from, lowest_of, lowest_in, with_at}

-- ---- which digit of which word

-- word h and digit i are those of the process 64 h + i + 1
place : (p : ℕ) → 1 ≤ p → word_digits * ((p - 1) / word_digits) + (p - 1) % word_digits + 1 ≡ p
place p l = omega arith

place_only : (p h i : ℕ) → i < word_digits → word_digits * h + i + 1 ≡ p → (h ≡ (p - 1) / word_digits) × (i ≡ (p - 1) % word_digits)
place_only p h i u e = (omega arith, omega arith)

place_in : (p : ℕ) → IsProcess most_processes p → ((p - 1) / word_digits ≤ 1) × ((p - 1) % word_digits < word_digits)
place_in p h = (omega arith, omega arith)

module _ {l : List ℕ} {j : ℕ} {S : ℕ → Bool} (is : SetIs l j S) where
  pub set_cong : (T : ℕ → Bool) → ((q : ℕ) → IsProcess most_processes q → S q ≡ T q) → SetIs l j T
  set_cong T e =
      record {
        words = λ h u. is.words h u ∙ digits_cong word_digits (λ i. S (word_digits * h + i + 1)) (λ i. T (word_digits * h + i + 1))
            (λ i v. e (word_digits * h + i + 1) (omega arith));
      }

  pub set_off : (i v : ℕ) → ((h : ℕ) → h ≤ 1 → set_at j + h ≡ i → ⊥) → SetIs (set l i v) j S
  set_off i v off = record { words = λ h u. get_or-set_other l i (set_at j + h) v 0 (off h u) ∙ is.words h u }

  module _ (p : ℕ) (in_p : IsProcess most_processes p) where
    -- the tests of the digits of p's word
    abbrev here : (ℕ → Bool) → ℕ → Bool
    here T i = T (word_digits * ((p - 1) / word_digits) + i + 1)

    pub set_word : word l j p ≡ digits word_digits (here S)
    set_word = is.words ((p - 1) / word_digits) (place_in p in_p).0

    here_p : (T : ℕ → Bool) → here T (digit_of p) ≡ T p
    here_p T = ap T (place p in_p.0)

    pub is_in_is : is_in l j p ≡ S p
    unfolding is_in
    is_in_is =
        ap (λ (w : ℕ). eqb (w / 2 ^ digit_of p % 2) 1) set_word
        ∙ ap (λ (w : ℕ). eqb w 1) (digits_test word_digits (here S) (digit_of p) (place_in p in_p).1 ∙ ap bit (here_p S)) ∙ bit_test (S p)

    -- another word there: that of another test, which agrees elsewhere
    set_put : sets_size ≤ length l → j ≤ most_processes → (T : ℕ → Bool) → ((q : ℕ) → (q ≡ p → ⊥) → S q ≡ T q)
        → (v : ℕ) → v ≡ digits word_digits (here T) → SetIs (set l (word_at j p) v) j T
    set_put long few T agree v e = record { words = λ h u. at h u (same? h ((p - 1) / word_digits)) }
      where
        at : (h : ℕ) → h ≤ 1 → Same h ((p - 1) / word_digits)
            → get_or (set l (word_at j p) v) (set_at j + h) 0 ≡ digits word_digits (λ i. T (word_digits * h + i + 1))
        at h u (same g _) = rw g (get_or-set_same l (word_at j p) v 0 (omega (arith, long, place_in p in_p)) ∙ e)
        at h u (apart g _) =
            get_or-set_other l (word_at j p) (set_at j + h) v 0 (λ f. g (omega arith)) ∙ is.words h u
            ∙ digits_cong word_digits (λ i. S (word_digits * h + i + 1)) (λ i. T (word_digits * h + i + 1))
            (λ i b. agree (word_digits * h + i + 1) (λ f. g (place_only p h i b f).0))

    other_here : (T : ℕ → Bool) → ((q : ℕ) → (q ≡ p → ⊥) → S q ≡ T q) → (i : ℕ) → i < word_digits → (i ≡ digit_of p → ⊥) → here S i ≡ here T i
    other_here T agree i u f = agree (word_digits * ((p - 1) / word_digits) + i + 1) (λ e. f (place_only p ((p - 1) / word_digits) i u e).1)

    module _ (v : Bool) where
      agrees : (q : ℕ) → (q ≡ p → ⊥) → S q ≡ with_at S p v q
      agrees q e = at (same? q p)
        where
          at : Same q p → S q ≡ choose (eqb q p) v (S q)
          at (same f _) = absurd (e f)
          at (apart _ f) = rw f

      with_here : with_at S p v p ≡ v
      with_here = at (same? p p)
        where
          at : Same p p → choose (eqb p p) v (S p) ≡ v
          at (same _ f) = rw f
          at (apart e _) = absurd (e refl)

    module _ (out : S p ≡ false) where
      more : digits word_digits (here (with_at S p true)) ≡ digits word_digits (here S) + 2 ^ digit_of p
      more =
          digits-set word_digits (here S) (here (with_at S p true)) (digit_of p) (place_in p in_p).1 (here_p S ∙ out)
          (here_p (with_at S p true) ∙ with_here true) (other_here (with_at S p true) (agrees true))

      pub added_fits : word l j p + 2 ^ digit_of p < 2 ^ word_digits
      added_fits = let s = digits_small word_digits (here (with_at S p true)) in omega (arith, s, more, set_word)

      pub set_added : sets_size ≤ length l → j ≤ most_processes → SetIs (added_to l j p) j (with_at S p true)
      set_added long few =
          set_put long few (with_at S p true) (agrees true) (word l j p + 2 ^ digit_of p) (ap (λ (w : ℕ). w + 2 ^ digit_of p) set_word ∙ sym more)

    module _ (inside : S p ≡ true) where
      less : digits word_digits (here S) ≡ digits word_digits (here (with_at S p false)) + 2 ^ digit_of p
      less =
          digits-set word_digits (here (with_at S p false)) (here S) (digit_of p) (place_in p in_p).1 (here_p (with_at S p false) ∙ with_here false)
          (here_p S ∙ inside) (λ i u f. sym (other_here (with_at S p false) (agrees false) i u f))

      pub struck_fits : 2 ^ digit_of p ≤ word l j p
      struck_fits = omega (arith, less, set_word)

      pub set_struck : sets_size ≤ length l → j ≤ most_processes → SetIs (struck_from l j p) j (with_at S p false)
      set_struck long few = set_put long few (with_at S p false) (agrees false) (word l j p - 2 ^ digit_of p) (omega (arith, less, set_word))

  -- ---- the lowest

  low : (q : ℕ) → 1 ≤ q → q < count_trailing_zeros word_digits (get_or l (set_at j) 0) + 1 → S q ≡ false
  low q a u =
      let first : get_or l (set_at j + 0) 0 ≡ get_or l (set_at j) 0 = ap (λ (i : ℕ). get_or l i 0) (add-zero (set_at j)) in
      let e : get_or l (set_at j + 0) 0 ≡ digits word_digits (λ i. S (word_digits * 0 + i + 1)) = is.words 0 (omega arith) in
      let t = digits_trailing word_digits (λ i. S (word_digits * 0 + i + 1)) in
      let s : word_digits * 0 + (q - 1) + 1 ≡ q = omega arith in
      ap S (sym s) ∙ t.1 (q - 1) (omega (arith, ap (count_trailing_zeros word_digits) (sym first ∙ e)))

  high : (q : ℕ) → word_digits < q → q < count_trailing_zeros word_digits (get_or l (set_at j + 1) 0) + (word_digits + 1) → S q ≡ false
  high q a u =
      let e : get_or l (set_at j + 1) 0 ≡ digits word_digits (λ i. S (word_digits * 1 + i + 1)) = is.words 1 (omega arith) in
      let t = digits_trailing word_digits (λ i. S (word_digits * 1 + i + 1)) in
      let s : word_digits * 1 + (q - word_digits - 1) + 1 ≡ q = omega arith in
      ap S (sym s) ∙ t.1 (q - word_digits - 1) (omega (arith, ap (count_trailing_zeros word_digits) e))

  pub lowest_in_first : (q : ℕ) → 1 ≤ q → q < lowest_in l j → S q ≡ false
  unfolding lowest_of
  lowest_in_first q a u = at (same? (get_or l (set_at j) 0) 0) (below? word_digits q)
    where
      at : Same (get_or l (set_at j) 0) 0 → Below word_digits q → S q ≡ false
      at (same e f) (below b _) = high q b (rw f at u)
      at (same e f) (beyond b _) = low q a (omega (arith, ap (count_trailing_zeros word_digits) e, trailing_of_zero word_digits))
      at (apart e f) _ = low q a (rw f at u)

pub lowest_of_most : (low high : ℕ) → lowest_of low high ≤ most_processes + 1
unfolding lowest_of
lowest_of_most low high = at (same? low 0)
  where
    at : Same low 0 → choose (eqb low 0) (count_trailing_zeros word_digits high + (word_digits + 1)) (count_trailing_zeros word_digits low + 1) ≤ most_processes + 1
    at (same _ e) = rw e (omega (arith, trailing_le word_digits high))
    at (apart _ e) = rw e (omega (arith, trailing_le word_digits low))
