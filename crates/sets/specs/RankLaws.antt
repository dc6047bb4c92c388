-- The one of a set that has so many of it below it, in two words of digits.
--   Words low high T       == the two words hold exactly the processes that pass T
--   nth_first              == their lowest has none below it
--   struck_low, struck_high   == without its lowest, by the first word or by the second: the one that has k below it is the next one of the whole
--   nth_none               == where both words are 0 nobody passes
--   set_words              == the words of a set of the array
-- Assumes nothing.
use Rattle.std.specs.Prelude.{ℕ, ◌+◌, ◌-◌, ◌*◌, ◌≤◌, ◌<◌, Bool, true, List, ◌≡◌, refl, get_or}
use Rattle.std.proofs.Math.Bool.{false}
use Rattle.std.proofs.lemmas.Bool.{false≢true}
use Rattle.std.proofs.Common.{sym, ◌∙◌, subst, add-zero, eq-eqb, ne_eqb}
use Rattle.std.proofs.Math.Path.{ap}
use native.Mathlib.Omega.{arith}
use Rattle.std.specs.Int.Bits.{bit_and}
use Rattle.std.specs.Int.Count.{count_trailing_zeros, trailing_of_zero}
use Rattle.base.specs.Choice.{bit}
use Rattle.base.specs.ChoiceLaws.{same?, below?}
use Rattle.base.specs.Checks.{Same, same, apart, Below, below, beyond}
use Rattle.base.specs.Sums.{count_to}
use Rattle.base.specs.SumLaws.{sum_to_zero}
use Rattle.tables.specs.Table.{most_processes, IsProcess}
use Rattle.sets.specs.Digits.{digits}
use Rattle.sets.specs.DigitLaws.{digits_cong, digits_trailing, Least, digits_least}
use Rattle.sets.specs.Sets.{word_digits, set_at, SetIs, lowest_of, Nth, with_at}
use Rattle.sets.specs.CountLaws.{count_more}

-- word h holds the processes from 64 h + 1 on
abbrev Word : ℕ → (ℕ → Bool) → ℕ → Type 0
Word h T w = w ≡ digits word_digits (λ i. T (word_digits * h + i + 1))

pub record Words (low high : ℕ) (T : ℕ → Bool) : Type 0 where
  pub first : Word 0 T low
  pub second : Word 1 T high

pub set_words : {l : List ℕ} {j : ℕ} {S : ℕ → Bool} → SetIs l j S → {i : ℕ} → i ≡ set_at j → Words (get_or l i 0) (get_or l (i + 1) 0) S
set_words {l} {j} is {i} e =
    record {
      first = ap (λ (x : ℕ). get_or l x 0) (e ∙ sym (add-zero (set_at j))) ∙ is.words 0 (omega arith);
      second = ap (λ (x : ℕ). get_or l (x + 1) 0) e ∙ is.words 1 (omega arith);
    }

-- ---- one passes no more

module _ (T : ℕ → Bool) (q : ℕ) where
  with_at_is : with_at T q false q ≡ false
  with_at_is = rw (eq-eqb q q refl)

  with_off : (x : ℕ) → (x ≡ q → ⊥) → with_at T q false x ≡ T x
  with_off x e = rw (ne_eqb x q e)

-- q is the lowest that passes T
pub record First (T : ℕ → Bool) (q : ℕ) : Type 0 where
  pub in_q : IsProcess most_processes q
  pub is : T q ≡ true
  pub lower : (p : ℕ) → 1 ≤ p → p < q → T p ≡ false

nth_lowest : {T : ℕ → Bool} {q : ℕ} → First T q → Nth T 0 q
unfolding count_to
nth_lowest {T} {q} f u = (f.in_q, f.is, sum_to_zero (q - 1) (λ p. bit (T p)) (λ p l v. ap bit (f.lower p l (omega arith))))

nth_next : {T : ℕ → Bool} {q : ℕ} → First T q → (k r : ℕ) → Nth (with_at T q false) k r → Nth T (k + 1) r
nth_next {T} {q} f k r h u =
    let i = f.in_q in
    let whole : count_to most_processes T ≡ count_to most_processes (with_at T q false) + 1 = more most_processes i.1 in
    let n = h (omega (arith, whole)) in
    let apart-r : r ≡ q → ⊥ = λ e. false≢true (sym (with_at_is T q) ∙ ap (with_at T q false) (sym e) ∙ n.1) in
    let is-r : T r ≡ true = sym (with_off T q r apart-r) ∙ n.1 in
    let past : q < r = above is-r apart-r n.0.0 in
    (n.0, is-r, more (r - 1) (omega arith) ∙ ap (λ (x : ℕ). x + 1) n.2)
  where
    more : (m : ℕ) → q ≤ m → count_to m T ≡ count_to m (with_at T q false) + 1
    more m v = count_more m (with_at T q false) T q (f.in_q.0, v) (with_at_is T q) f.is (λ x e. with_off T q x e)

    above : T r ≡ true → (r ≡ q → ⊥) → 1 ≤ r → q < r
    above e d l = at (below? r q)
      where
        at : Below r q → q < r
        at (below v _) = absurd (false≢true (sym (f.lower r l v) ∙ e))
        at (beyond v _) = omega (arith, d)

-- ---- two words

-- a word that is 0 holds nobody
word_none : (h : ℕ) (T : ℕ → Bool) {w : ℕ} → Word h T w → w ≡ 0 → (i : ℕ) → i < word_digits → T (word_digits * h + i + 1) ≡ false
word_none h T e z i u =
    let f : ℕ → Bool = λ j. T (word_digits * h + j + 1) in
    let t = digits_trailing word_digits f in
    t.1 i (omega (arith, ap (count_trailing_zeros word_digits) (sym e ∙ z), trailing_of_zero word_digits))

module _ (h : ℕ) (T : ℕ → Bool) {w : ℕ} (e : Word h T w) where
  -- the word without the process q, which is its digit i
  word_struck : (n : w ≡ 0 → ⊥) → Least word_digits (λ i. T (word_digits * h + i + 1)) w
  word_struck n =
      subst (λ (x : ℕ). Least word_digits (λ i. T (word_digits * h + i + 1)) x) (sym e)
      (digits_least word_digits (λ i. T (word_digits * h + i + 1)) (λ z. n (e ∙ z)))

  word_without : (t : Least word_digits (λ i. T (word_digits * h + i + 1)) w) → Word h (with_at T (word_digits * h + t.at + 1) false) (bit_and w (w - 1))
  word_without t =
      let q : ℕ = word_digits * h + t.at + 1 in
      t.struck (λ i. with_at T q false (word_digits * h + i + 1)) (with_at_is T q)
      (λ i u d. sym (with_off T q (word_digits * h + i + 1) (λ p. d (omega arith))))

  word_stands : (q : ℕ) → ((i : ℕ) → i < word_digits → word_digits * h + i + 1 ≡ q → ⊥) → Word h (with_at T q false) w
  word_stands q off =
      e ∙ digits_cong word_digits (λ i. T (word_digits * h + i + 1)) (λ i. with_at T q false (word_digits * h + i + 1))
      (λ i u. sym (with_off T q (word_digits * h + i + 1) (off i u)))

module _ {low high : ℕ} {T : ℕ → Bool} (ws : Words low high T) where
  -- the lowest is in the first word
  module _ (n : low ≡ 0 → ⊥) where
    t : Least word_digits (λ i. T (word_digits * 0 + i + 1)) low
    t = word_struck 0 T ws.first n

    first_low : First T (word_digits * 0 + t.at + 1)
    first_low =
        record {
          in_q = (omega arith, omega (arith, t.within));
          is = t.is;
          lower = λ p l u. let e : word_digits * 0 + (p - 1) + 1 ≡ p = omega arith in ap T (sym e) ∙ t.below (p - 1) (omega arith);
        }

    lowest_low : lowest_of low high ≡ word_digits * 0 + t.at + 1
    unfolding lowest_of
    lowest_low = rw (ne_eqb low 0 n) (omega (arith, t.trails))

    pub struck_low : (T' : ℕ → Bool) × Words (bit_and low (low - 1)) high T' × ((k r : ℕ) → Nth T' k r → Nth T (k + 1) r)
    struck_low =
        let q : ℕ = word_digits * 0 + t.at + 1 in (
          with_at T q false,
          record { first = word_without 0 T ws.first t; second = word_stands 1 T ws.second q (λ i u e. absurd (omega (arith, t.within))) },
          nth_next first_low,
        )

  -- .. or in the second
  module _ (z : low ≡ 0) (n : high ≡ 0 → ⊥) where
    s : Least word_digits (λ i. T (word_digits * 1 + i + 1)) high
    s = word_struck 1 T ws.second n

    first_high : First T (word_digits * 1 + s.at + 1)
    first_high =
        record {
          in_q = (omega arith, omega (arith, s.within));
          is = s.is;
          lower = λ p l u. at p l u (below? word_digits p);
        }
      where
        at : (p : ℕ) → 1 ≤ p → p < word_digits * 1 + s.at + 1 → Below word_digits p → T p ≡ false
        at p l u (below v _) =
            let e : word_digits * 1 + (p - 1 - word_digits) + 1 ≡ p = omega arith in
            ap T (sym e) ∙ s.below (p - 1 - word_digits) (omega arith)
        at p l u (beyond v _) =
            let e : word_digits * 0 + (p - 1) + 1 ≡ p = omega arith in
            ap T (sym e) ∙ word_none 0 T ws.first z (p - 1) (omega arith)

    lowest_high : lowest_of low high ≡ word_digits * 1 + s.at + 1
    unfolding lowest_of
    lowest_high = rw (eq-eqb low 0 z) (omega (arith, s.trails))

    pub struck_high : (T' : ℕ → Bool) × Words low (bit_and high (high - 1)) T' × ((k r : ℕ) → Nth T' k r → Nth T (k + 1) r)
    struck_high =
        let q : ℕ = word_digits * 1 + s.at + 1 in (
          with_at T q false,
          record { first = word_stands 0 T ws.first q (λ i u e. absurd (omega arith)); second = word_without 1 T ws.second s },
          nth_next first_high,
        )

  -- nobody passes
  pub nth_none : low ≡ 0 → high ≡ 0 → (k r : ℕ) → Nth T k r
  unfolding count_to
  nth_none z y k r u = absurd (omega (arith, sum_to_zero most_processes (λ p. bit (T p)) (λ p l v. ap bit (none p l v (below? word_digits p)))))
    where
      none : (p : ℕ) → 1 ≤ p → p ≤ most_processes → Below word_digits p → T p ≡ false
      none p l v (below w _) =
          let e : word_digits * 1 + (p - 1 - word_digits) + 1 ≡ p = omega arith in
          ap T (sym e) ∙ word_none 1 T ws.second y (p - 1 - word_digits) (omega arith)
      none p l v (beyond w _) =
          let e : word_digits * 0 + (p - 1) + 1 ≡ p = omega arith in
          ap T (sym e) ∙ word_none 0 T ws.first z (p - 1) (omega arith)

  pub nth_first : Nth T 0 (lowest_of low high)
  nth_first = at (same? low 0) (same? high 0)
    where
      at : Same low 0 → Same high 0 → Nth T 0 (lowest_of low high)
      at (apart n _) _ = rw (lowest_low n) (nth_lowest (first_low n))
      at (same z _) (apart n _) = rw (lowest_high z n) (nth_lowest (first_high z n))
      at (same z _) (same y _) = nth_none z y 0 (lowest_of low high)
