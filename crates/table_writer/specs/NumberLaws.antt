-- Laws of the writer's number and of the outcome that it decides.
--   write_number_P                      == the number is 0 exactly if no check is met
--   write_number_10 .. write_number_0    == the number, from the values of the tests
--   ends_fit_..                        == the tests' values, from facts
--   writing_.., written_..             == the answer and the output, from the number
--   write_number_low, writing_said      == the number is one of 0 to 13, and it is that of the answer
-- Assumes nothing.
use Prim.Native.Nat.{ℕ, zero, suc, ◌-◌, ◌%◌, ◌≤◌, ◌<◌}
use Rattle.std.specs.Prelude.{Bool, true, false, not, ◌&&◌, List, Ok, Err, ◌↔◌, ◌≡◌, refl, eqb, ltb, length}
use Rattle.std.proofs.lemmas.Bool.{false≢true}
use Rattle.std.proofs.Common.{sym, ◌∙◌, arith}
use borrow.Author.Tests.{ltb-false, eqb-true, lt-ltb, le-ltb, eq-eqb, ne_eqb, not-true, not-false}
use Rattle.base.specs.Choice.{choose}
use Rattle.base.specs.ChoiceLaws.{tested, and_left, and_right, and_both}
use Rattle.base.specs.Checks.{Tested, passed, failed}
use Rattle.base.specs.Sums.{all_to}
use Rattle.base.specs.SumLaws.{all_to_at, all_to_of, any_to_of, any_to_found}
use Rattle.base.specs.Sums.{Found}
use Rattle.refusals.specs.Numbers.{numbered, number_of}
use Rattle.refusals.specs.NumberLaws.{number_of_low}
use Rattle.tables.specs.declared.Chain.{Chain}
use Rattle.tables.specs.declared.Chain.TheVariants.{Out, In}
use Rattle.tables.specs.Table.{SizesFit, sizes_fit, table_length, IsProcess, is_process}
use Rattle.tables.specs.TableLaws.{sizes_fit_P, sizes_fit_not, is_process_P}
use Rattle.table_writer.specs.Writing.{Fit, pairs, end, given, unlike, ends_fit, table_over, write_number, output_for, written, writing_of}
use Rattle.table_writer.specs.Refusals.{EndsAre, Differ}
use Rattle.table_writer.specs.Putting.{EntriesUpTo}

-- ---- the checks as facts

-- number 0 says that no check was met
all_passed : (a b c d e : Bool) → ◌≡◌ {A = ℕ} (choose a 10 (choose b 2 (choose c 4 (choose d 7 (choose e 11 0))))) 0
    → (a ≡ false) × (b ≡ false) × (c ≡ false) × (d ≡ false) × (e ≡ false)
all_passed true b c d e h = absurd (omega arith)
all_passed false true c d e h = absurd (omega arith)
all_passed false false true d e h = absurd (omega arith)
all_passed false false false true e h = absurd (omega arith)
all_passed false false false false true h = absurd (omega arith)
all_passed false false false false false h = (refl, refl, refl, refl, refl)

pub ends_fit_each : (n : ℕ) (list : List ℕ) (k : ℕ) → ends_fit n list k ≡ true → (c : Chain) → IsProcess n (end c list k)
unfolding ends_fit
ends_fit_each n list k e Out = (is_process_P n _).0 (and_left (is_process n (end Out list k)) (is_process n (end In list k)) e)
ends_fit_each n list k e In = (is_process_P n _).0 (and_right (is_process n (end Out list k)) (is_process n (end In list k)) e)

pub ends_fit_not : (n : ℕ) (list : List ℕ) (k : ℕ) (c : Chain) → is_process n (end c list k) ≡ false → ends_fit n list k ≡ false
unfolding ends_fit
ends_fit_not n list k Out e = rw e
ends_fit_not n list k In e = rw e (elim (is_process n (end Out list k)) as (λ b. (b && false) ≡ false) [ true ↦ refl | false ↦ refl ])

pub ends_fit_both : (n : ℕ) (list : List ℕ) (k : ℕ) → is_process n (end Out list k) ≡ true → is_process n (end In list k) ≡ true → ends_fit n list k ≡ true
unfolding ends_fit
ends_fit_both n list k e f = rw (e, f)

pub unlike_differ : (list : List ℕ) (j k : ℕ) → 1 ≤ j → j < k → unlike list k ≡ true → end Out list j ≡ end Out list k → end In list j ≡ end In list k → ⊥
unfolding unlike given
unlike_differ list j k l u e f g =
    false≢true (sym (not-true _ e) ∙ any_to_of (k - 1) _ j l (omega arith) (and_both _ _ (eq-eqb _ _ f) (eq-eqb _ _ g)))

write_number_fit : (n : ℕ) (list : List ℕ) (space : ℕ) → write_number n list space ≡ 0 → Fit n list space
unfolding write_number
write_number_fit n list space e =
    let m : ℕ = pairs list in
    let h =
    all_passed (not (eqb (length list % 2) 0)) (not (sizes_fit n m)) (not (all_to m (ends_fit n list))) (not (all_to m (unlike list)))
    (ltb space (table_length n m)) e in
    let ends : (k : ℕ) → 1 ≤ k → k ≤ m → ends_fit n list k ≡ true = all_to_at m (ends_fit n list) (not-false _ h.2) in
    let new : (k : ℕ) → 1 ≤ k → k ≤ m → unlike list k ≡ true = all_to_at m (unlike list) (not-false _ h.3) in
    record {
      even = eqb-true _ _ (not-false _ h.0);
      sizes = (sizes_fit_P n m).0 (not-false _ h.1);
      ends = λ c k l u. ends_fit_each n list k (ends k l u) c;
      differ = λ j k l u v f g. unlike_differ list j k l u (new k (omega arith) v) f g;
      room = ltb-false _ _ h.4;
    }

-- the number, from the values of the tests
module _ (n : ℕ) (list : List ℕ) (space : ℕ) where
  pub write_number_10 : (length list % 2 ≡ 0 → ⊥) → write_number n list space ≡ 10
  unfolding write_number
  write_number_10 e = rw (ne_eqb (length list % 2) 0 e)

  pub write_number_2 : length list % 2 ≡ 0 → (SizesFit n (pairs list) → ⊥) → write_number n list space ≡ 2
  unfolding write_number
  write_number_2 e s = rw (eq-eqb (length list % 2) 0 e, sizes_fit_not n (pairs list) s)

  pub write_number_4 : length list % 2 ≡ 0 → SizesFit n (pairs list) → all_to (pairs list) (ends_fit n list) ≡ false → write_number n list space ≡ 4
  unfolding write_number
  write_number_4 e s p = rw (eq-eqb (length list % 2) 0 e, (sizes_fit_P n (pairs list)).1 s, p)

  module _ (e : length list % 2 ≡ 0) (s : SizesFit n (pairs list)) (p : all_to (pairs list) (ends_fit n list) ≡ true) where
    pub write_number_7 : all_to (pairs list) (unlike list) ≡ false → write_number n list space ≡ 7
    unfolding write_number
    write_number_7 q = rw (eq-eqb (length list % 2) 0 e, (sizes_fit_P n (pairs list)).1 s, p, q)

    pub write_number_11 : all_to (pairs list) (unlike list) ≡ true → space < table_length n (pairs list) → write_number n list space ≡ 11
    unfolding write_number
    write_number_11 q u = rw (eq-eqb (length list % 2) 0 e, (sizes_fit_P n (pairs list)).1 s, p, q, lt-ltb space (table_length n (pairs list)) u)

    pub write_number_0 : all_to (pairs list) (unlike list) ≡ true → table_length n (pairs list) ≤ space → write_number n list space ≡ 0
    unfolding write_number
    write_number_0 q u = rw (eq-eqb (length list % 2) 0 e, (sizes_fit_P n (pairs list)).1 s, p, q, le-ltb space (table_length n (pairs list)) u)

pub ends_fit_below : (n : ℕ) (list : List ℕ) (b : ℕ) → n ≤ b → all_to (pairs list) (ends_fit n list) ≡ true → EntriesUpTo list b
ends_fit_below n list b u e c k l v =
    let high : end c list k ≤ n = (ends_fit_each n list k (all_to_at (pairs list) (ends_fit n list) e k l v) c).1 in
    omega arith

-- a list that fits is not refused
pub unlike_of : (list : List ℕ) (k : ℕ) → ((j : ℕ) → 1 ≤ j → j < k → end Out list j ≡ end Out list k → end In list j ≡ end In list k → ⊥) → 1 ≤ k
    → unlike list k ≡ true
unfolding unlike given
unlike_of list k h l = at (tested (given list (k - 1) (end Out list k) (end In list k)))
  where
    met : Found (k - 1) (λ j. eqb (end Out list j) (end Out list k) && eqb (end In list j) (end In list k)) → ⊥
    met f =
        h f.at f.low (omega (arith, f.high))
        (eqb-true (end Out list f.at) (end Out list k)
        (and_left (eqb (end Out list f.at) (end Out list k)) (eqb (end In list f.at) (end In list k)) f.passes))
        (eqb-true (end In list f.at) (end In list k)
        (and_right (eqb (end Out list f.at) (end Out list k)) (eqb (end In list f.at) (end In list k)) f.passes))

    at : Tested (given list (k - 1) (end Out list k) (end In list k)) → not (given list (k - 1) (end Out list k) (end In list k)) ≡ true
    at (passed e) = absurd (met (any_to_found (k - 1) _ e))
    at (failed e) = rw e

pub ends_true : (n : ℕ) (list : List ℕ) → EndsAre n list → all_to (pairs list) (ends_fit n list) ≡ true
ends_true n list p =
    all_to_of (pairs list) (ends_fit n list) (λ k l u. ends_fit_both n list k
    ((is_process_P n (end Out list k)).1 (p Out k l u))
    ((is_process_P n (end In list k)).1 (p In k l u)))

pub differ_true : (list : List ℕ) → Differ list → all_to (pairs list) (unlike list) ≡ true
differ_true list d = all_to_of (pairs list) (unlike list) (λ k l u. unlike_of list k (λ j v w. d j k v w u) l)

fit_write_number : (n : ℕ) (list : List ℕ) (space : ℕ) → Fit n list space → write_number n list space ≡ 0
fit_write_number n list space f =
    write_number_0 n list space f.even f.sizes (ends_true n list f.ends) (differ_true list f.differ) f.room

pub write_number_P : (n : ℕ) (list : List ℕ) (space : ℕ) → (write_number n list space ≡ 0) ↔ Fit n list space
write_number_P n list space = (write_number_fit n list space, fit_write_number n list space)

output_kept : (r : ℕ) (new old : List ℕ) → (r ≡ 0 → ⊥) → old ≡ output_for r new old
unfolding output_for
output_kept zero new old h = absurd (h refl)
output_kept (suc r) new old h = refl

-- a number that a check met gives, or that of the checks after it
choose_low : (b : Bool) {x y : ℕ} → x ≤ 13 → y ≤ 13 → choose b x y ≤ 13
choose_low true h g = h
choose_low false h g = g

pub write_number_low : (n : ℕ) (list : List ℕ) (space : ℕ) → write_number n list space ≤ 13
unfolding write_number
write_number_low n list space =
    let m : ℕ = pairs list in
    choose_low (not (eqb (length list % 2) 0)) (omega arith)
    (choose_low (not (sizes_fit n m)) (omega arith)
    (choose_low (not (all_to m (ends_fit n list))) (omega arith)
    (choose_low (not (all_to m (unlike list))) (omega arith)
    (choose_low (ltb space (table_length n m)) (omega arith) (omega arith)))))

-- the outcome for a number that is 0, and for one that is not
module _ (n : ℕ) (list out : List ℕ) where
  pub writing_said : number_of (writing_of n list out) ≡ write_number n list (length out)
  unfolding writing_of
  writing_said =
      number_of_low (write_number n list (length out)) (table_length n (pairs list)) (write_number_low n list (length out))

  pub writing_refused : (r : ℕ) → r ≡ write_number n list (length out) → (r ≡ 0 → ⊥) → Err (numbered r) ≡ writing_of n list out
  unfolding writing_of
  writing_refused zero e h = absurd (h refl)
  writing_refused (suc r) e h = rw (← e)

  pub written_refused : (write_number n list (length out) ≡ 0 → ⊥) → out ≡ written n list out
  unfolding written
  written_refused h = output_kept (write_number n list (length out)) (table_over n list out) out h

  pub writing_written : write_number n list (length out) ≡ 0 → Ok (table_length n (pairs list)) ≡ writing_of n list out
  unfolding writing_of
  writing_written e = rw e

  pub written_table : write_number n list (length out) ≡ 0 → table_over n list out ≡ written n list out
  unfolding written output_for
  written_table e = rw e
