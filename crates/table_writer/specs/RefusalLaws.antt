-- The writer's number is the first row that is met.
--   writer_P      == the number is r exactly if row r is met and none before it is (0 exactly if none is)
-- Assumes nothing.
use Prim.Native.Nat.{ℕ, ◌-◌, ◌%◌, ◌≤◌}
use Rattle.std.specs.Prelude.{Bool, true, false, not, ◌&&◌, List, ◌↔◌, ◌≡◌, refl, eqb, ltb, length}
use Rattle.std.proofs.lemmas.Bool.{false≢true, eqb-false}
use Rattle.std.proofs.Common.{sym, ◌∙◌, ltb-true, ltb-false, eqb-true, arith}
use Rattle.base.specs.ChoiceLaws.{tested, and_left, and_right}
use Rattle.base.specs.Checks.{Tested, passed, failed}
use Rattle.base.specs.Checks.{Check, holds, fails}
use Rattle.base.specs.CheckLaws.{check_all}
use Rattle.base.specs.Sums.{all_to}
use Rattle.base.specs.SumLaws.{all_to_at, any_to_found}
use Rattle.base.specs.Sums.{Found}
use Rattle.tables.specs.declared.Chain.{Chain}
use Rattle.tables.specs.declared.Chain.TheVariants.{Out, In}
use Rattle.tables.specs.Table.{SizesFit, sizes_fit, table_length, IsProcess, is_process}
use Rattle.tables.specs.TableLaws.{sizes_fit_P, is_process_P}
use Rattle.table_writer.specs.Writing.{pairs, end, given, unlike, ends_fit, write_number}
use Rattle.table_writer.specs.Refusals.{EndsAre, Differ, WriterMet, row_10, row_2, row_4, row_7, row_11, no_row}
use Rattle.table_writer.specs.NumberLaws.{ends_fit_each, ends_fit_both, unlike_differ, write_number_10, write_number_2, write_number_4, write_number_7}
use Rattle.table_writer.specs.NumberLaws.{write_number_11, write_number_0, ends_true, differ_true}

module _ (n : ℕ) (list : List ℕ) where
  not_process : (p : ℕ) → is_process n p ≡ false → IsProcess n p → ⊥
  not_process p f i = false≢true (sym f ∙ (is_process_P n p).1 i)

  -- one pair: both ends are processes, or one is not
  ends_check : (k : ℕ) → Check (ends_fit n list k) ((c : Chain) → IsProcess n (end c list k)) ((c : Chain) × (IsProcess n (end c list k) → ⊥))
  ends_check k = at (tested (ends_fit n list k)) (tested (is_process n (end Out list k))) (tested (is_process n (end In list k)))
    where
      at : Tested (ends_fit n list k) → Tested (is_process n (end Out list k)) → Tested (is_process n (end In list k))
          → Check (ends_fit n list k) ((c : Chain) → IsProcess n (end c list k)) ((c : Chain) × (IsProcess n (end c list k) → ⊥))
      at (passed e) _ _ = holds e (ends_fit_each n list k e)
      at (failed e) (failed f) _ = fails e (Out, not_process (end Out list k) f)
      at (failed e) (passed f) (failed g) = fails e (In, not_process (end In list k) g)
      at (failed e) (passed f) (passed g) = absurd (false≢true (sym e ∙ ends_fit_both n list k f g))

  -- all pairs
  all_ends : Check (all_to (pairs list) (ends_fit n list)) ((k : ℕ) → (1 ≤ k) × (k ≤ pairs list) → (c : Chain) → IsProcess n (end c list k))
      ((k : ℕ) × ((1 ≤ k) × (k ≤ pairs list)) × ((c : Chain) × (IsProcess n (end c list k) → ⊥)))
  all_ends = check_all (pairs list) (ends_fit n list) _ _ ends_check

-- an earlier pair with the same ends
abbrev Again : List ℕ → ℕ → Type 0
Again list k = (j : ℕ) × (1 ≤ j) × (j ≤ k - 1) × (end Out list j ≡ end Out list k) × (end In list j ≡ end In list k)

module _ (list : List ℕ) where
  unlike_check : (k : ℕ) → Check (unlike list k) (unlike list k ≡ true) (Again list k)
  unfolding unlike given
  unlike_check k = at (tested (unlike list k))
    where
      out : ℕ
      out = end Out list k

      into : ℕ
      into = end In list k

      at : Tested (unlike list k) → Check (unlike list k) (unlike list k ≡ true) (Again list k)
      at (passed e) = holds e e
      at (failed e) = fails e (again (any_to_found (k - 1) (λ j. eqb (end Out list j) out && eqb (end In list j) into) (not_passed _ e)))
        where
          not_passed : (b : Bool) → not b ≡ false → b ≡ true
          not_passed true _ = refl
          not_passed false z = sym z

          again : Found (k - 1) (λ j. eqb (end Out list j) out && eqb (end In list j) into) → Again list k
          again f = (
            f.at,
            f.low,
            f.high,
            eqb-true (end Out list f.at) out (and_left (eqb (end Out list f.at) out) (eqb (end In list f.at) into) f.passes),
            eqb-true (end In list f.at) into (and_right (eqb (end Out list f.at) out) (eqb (end In list f.at) into) f.passes),
          )

module _ (n : ℕ) (list : List ℕ) (space : ℕ) where
  met_number : (r : ℕ) → WriterMet n list space r → write_number n list space ≡ r
  met_number r (row_10 o) = write_number_10 n list space o
  met_number r (row_2 e s) = write_number_2 n list space e s
  met_number r (row_4 e s c k l u h) = write_number_4 n list space e s (at (all_ends n list))
    where
      at : Check (all_to (pairs list) (ends_fit n list)) ((k : ℕ) → (1 ≤ k) × (k ≤ pairs list) → (c : Chain) → IsProcess n (end c list k))
          ((k : ℕ) × ((1 ≤ k) × (k ≤ pairs list)) × ((c : Chain) × (IsProcess n (end c list k) → ⊥)))
          → all_to (pairs list) (ends_fit n list) ≡ false
      at (holds _ p) = absurd (h (p k (l, u) c))
      at (fails f _) = f
  met_number r (row_7 e s p j k l u v x y) = write_number_7 n list space e s (ends_true n list p) (at (tested (all_to (pairs list) (unlike list))))
    where
      at : Tested (all_to (pairs list) (unlike list)) → all_to (pairs list) (unlike list) ≡ false
      at (passed q) = absurd (unlike_differ list j k l u (all_to_at (pairs list) (unlike list) q k (omega arith) v) x y)
      at (failed q) = q
  met_number r (row_11 e s p d u) = write_number_11 n list space e s (ends_true n list p) (differ_true list d) u
  met_number r (no_row e s p d u) = write_number_0 n list space e s (ends_true n list p) (differ_true list d) u

  -- which row it is, test by test
  number_met : WriterMet n list space (write_number n list space)
  number_met = even (tested (eqb (length list % 2) 0))
    where
      by : {r : ℕ} → WriterMet n list space r → WriterMet n list space (write_number n list space)
      by {r} m = rw (met_number r m) m

      room : length list % 2 ≡ 0 → SizesFit n (pairs list) → EndsAre n list → Differ list → Tested (ltb space (table_length n (pairs list)))
          → WriterMet n list space (write_number n list space)
      room e s p d (passed u) = by (row_11 e s p d (ltb-true space (table_length n (pairs list)) u))
      room e s p d (failed u) = by (no_row e s p d (ltb-false space (table_length n (pairs list)) u))

      differ : length list % 2 ≡ 0 → SizesFit n (pairs list) → EndsAre n list
          → Check (all_to (pairs list) (unlike list)) ((k : ℕ) → (1 ≤ k) × (k ≤ pairs list) → unlike list k ≡ true)
          ((k : ℕ) × ((1 ≤ k) × (k ≤ pairs list)) × Again list k)
          → WriterMet n list space (write_number n list space)
      differ e s p (fails _ x) =
          let g = x.2 in by (row_7 e s p g.0 x.0 g.1 (omega (arith, g.1, g.2, x.1.0)) x.1.1 g.3 g.4)
      differ e s p (holds _ h) =
          room e s p (λ j k l u v f g. unlike_differ list j k l u (h k (omega arith, v)) f g) (tested (ltb space (table_length n (pairs list))))

      ends : length list % 2 ≡ 0 → SizesFit n (pairs list)
          → Check (all_to (pairs list) (ends_fit n list)) ((k : ℕ) → (1 ≤ k) × (k ≤ pairs list) → (c : Chain) → IsProcess n (end c list k))
          ((k : ℕ) × ((1 ≤ k) × (k ≤ pairs list)) × ((c : Chain) × (IsProcess n (end c list k) → ⊥)))
          → WriterMet n list space (write_number n list space)
      ends e s (fails _ x) = by (row_4 e s x.2.0 x.0 x.1.0 x.1.1 x.2.1)
      ends e s (holds _ h) = differ e s (λ c k l u. h k (l, u) c) (check_all (pairs list) (unlike list) _ _ (unlike_check list))

      sizes : length list % 2 ≡ 0 → Tested (sizes_fit n (pairs list)) → WriterMet n list space (write_number n list space)
      sizes e (failed f) = by (row_2 e (λ s. false≢true (sym f ∙ (sizes_fit_P n (pairs list)).1 s)))
      sizes e (passed f) = ends e ((sizes_fit_P n (pairs list)).0 f) (all_ends n list)

      even : Tested (eqb (length list % 2) 0) → WriterMet n list space (write_number n list space)
      even (failed f) = by (row_10 (eqb-false (length list % 2) 0 f))
      even (passed f) = sizes (eqb-true (length list % 2) 0 f) (tested (sizes_fit n (pairs list)))

  pub writer_P : (r : ℕ) → (write_number n list space ≡ r) ↔ WriterMet n list space r
  writer_P r = (λ e. rw e at number_met, met_number r)
