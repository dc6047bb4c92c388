-- Laws on the answer of reading a table, one for each way that the code goes.
--   reading_of_1, reading_of_2, reading_of_3   == refused by checks 1 to 3; reading_sizes is the second, of the test
--   reading_of_4, reading_of_0     == refused by checks 4 to 7, or accepted
-- Assumes nothing.
use Rattle.std.specs.Prelude.{ℕ, zero, suc, ◌≤◌, ◌<◌, true, false, List, Result, Ok, Err, ◌≡◌, length}
use Rattle.std.proofs.lemmas.Bool.{false≢true}
use Rattle.std.proofs.Common.{refl, sym, ap, ◌∙◌, arith}
use Rattle.refusals.specs.declared.Refusal.{Refusal}
use Rattle.refusals.specs.Numbers.{numbered, answered}
use Rattle.refusals.specs.NumberLaws.{answered_ok, passed_on}
use Rattle.tables.specs.declared.Sizes.{Sizes}
use Rattle.tables.specs.Layout as Layout
use Rattle.tables.specs.Table.{Fields, field_of, n_of, m_of, sizes_of, SizesFit, sizes_fit, table_length}
use Rattle.tables.specs.TableLaws.{sizes_fit_P, sizes_fit_not}
use Rattle.tables.specs.Reading.{sizes_right, fields_number, read_number, reading_of}
use Rattle.tables.specs.ReadingLaws.{read_number_1, read_number_2, read_number_3, read_number_4}

answer_refused : (q r : ℕ) (x : Sizes) → r ≡ q → (r ≡ 0 → ⊥) → Err (numbered r) ≡ answered q x
answer_refused zero r x e d = absurd (d e)
answer_refused (suc q) r x e d = ap (λ (k : ℕ). Err (numbered k)) e

answer_accepted : (q : ℕ) (x : Sizes) → q ≡ 0 → Ok x ≡ answered q x
answer_accepted zero x e = refl
answer_accepted (suc q) x e = absurd (omega arith)

sizes_not : (t : Fields) → (Layout.Sizes t → ⊥) → sizes_right t ≡ false
unfolding sizes_right
sizes_not t h = sizes_fit_not (n_of t) (m_of t) h

module _ (bs : List ℕ) where
  refused : (r : ℕ) → read_number bs ≡ r → (r ≡ 0 → ⊥) → Err (numbered r) ≡ reading_of bs
  unfolding reading_of
  refused r e d = answer_refused (read_number bs) r (sizes_of (field_of bs)) (sym e) d

  pub reading_of_1 : length bs < 4 → Err Refusal.TableShort ≡ reading_of bs
  reading_of_1 h = refused 1 (read_number_1 bs h) (λ e. omega arith)

  module _ (long : 4 ≤ length bs) (n m : ℕ) (en : n ≡ n_of (field_of bs)) (em : m ≡ m_of (field_of bs)) where
    reading_of_2 : (SizesFit n m → ⊥) → Err Refusal.Sizes ≡ reading_of bs
    reading_of_2 h = refused 2 (read_number_2 bs long (sizes_not (field_of bs) (λ s. h (omega arith, omega arith, omega arith)))) (λ e. omega arith)

    pub reading_sizes : false ≡ sizes_fit n m → Err Refusal.Sizes ≡ reading_of bs
    reading_sizes f = reading_of_2 (λ s. false≢true (f ∙ (sizes_fit_P n m).1 s))

    module _ (f : true ≡ sizes_fit n m) where
      fit : sizes_right (field_of bs) ≡ true
      unfolding sizes_right
      fit = sym (rw (en, em) at f)

      pub reading_of_3 : (length bs ≡ table_length n m → ⊥) → Err Refusal.TableLength ≡ reading_of bs
      reading_of_3 d = refused 3 (read_number_3 bs long fit (λ e. d (omega arith))) (λ e. omega arith)

      module _ (e : length bs ≡ table_length n m) where
        here : answered (fields_number (field_of bs)) (record { n = n; m = m }) ≡ reading_of bs
        unfolding reading_of
        here =
            ap {A = Sizes} (answered (fields_number (field_of bs))) (λ i. record { n = en i; m = em i })
            ∙ ap (λ (q : ℕ). answered q (sizes_of (field_of bs))) (sym (read_number_4 bs long fit (omega arith)))

        module _ (w : Result (Unit {0}) Refusal) (ew : w ≡ answered (fields_number (field_of bs)) tt) where
          pub reading_of_4 : (r : Refusal) → w ≡ Err r → Err r ≡ reading_of bs
          reading_of_4 r f = passed_on (fields_number (field_of bs)) tt _ (sym ew ∙ f) ∙ here

          pub reading_of_0 : (u : Unit {0}) → w ≡ Ok u → Ok (record { n = n; m = m }) ≡ reading_of bs
          reading_of_0 u f = answer_accepted (fields_number (field_of bs)) (record { n = n; m = m }) (answered_ok (fields_number (field_of bs)) tt (sym ew ∙ f)).0 ∙ here
