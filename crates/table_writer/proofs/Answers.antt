-- Laws on the answers of the writer, one for each way that the code goes.
--   Says k n list space   == the answer of checks that come to k is the writer's
--   says_odd, says_sizes, says_ends, says_alike, says_short   == the first check that is met
--   says_none      == none is
--   refused, taken   == what the checks' answer says of the writer's number
-- Assumes nothing.
use Rattle.std.specs.Prelude.{ℕ, ◌%◌, ◌≤◌, ◌<◌, true, false, List, Result, Ok, Err, ◌≡◌, length}
use Rattle.std.proofs.Common.{sym, ◌∙◌, eq-eqb, ne_eqb, lt-ltb, le-ltb}
use Rattle.base.specs.Sums.{all_to}
use Rattle.refusals.specs.declared.Refusal.{Refusal}
use Rattle.refusals.specs.Numbers.{answered}
use Rattle.refusals.specs.NumberLaws.{answered_ok, answered_err, passed_on}
use Rattle.tables.specs.Table.{sizes_fit, table_length}
use Rattle.table_writer.specs.Writing.{Fit, pairs, ends_fit, unlike, write_number, written, writing_of}
use Rattle.table_writer.specs.NumberLaws.{write_number_P, written_refused}

abbrev pub Says : ℕ → ℕ → List ℕ → ℕ → Type 0
Says k n list space = ◌≡◌ {A = Result (Unit {0}) Refusal} (answered k tt) (answered (write_number n list space) tt)

module _ (n : ℕ) (list : List ℕ) (space : ℕ) where
  pub says_odd : (length list % 2 ≡ 0 → ⊥) → Says 10 n list space
  unfolding write_number
  says_odd h = rw (ne_eqb (length list % 2) 0 h)

  module _ (even : length list % 2 ≡ 0) where
    pub says_sizes : false ≡ sizes_fit n (pairs list) → Says 2 n list space
    unfolding write_number
    says_sizes s = rw (eq-eqb (length list % 2) 0 even, ← s)

    module _ (s : true ≡ sizes_fit n (pairs list)) where
      pub says_ends : false ≡ all_to (pairs list) (ends_fit n list) → Says 4 n list space
      unfolding write_number
      says_ends p = rw (eq-eqb (length list % 2) 0 even, ← s, ← p)

      module _ (p : true ≡ all_to (pairs list) (ends_fit n list)) where
        pub says_alike : false ≡ all_to (pairs list) (unlike list) → Says 7 n list space
        unfolding write_number
        says_alike d = rw (eq-eqb (length list % 2) 0 even, ← s, ← p, ← d)

        module _ (d : true ≡ all_to (pairs list) (unlike list)) where
          pub says_short : space < table_length n (pairs list) → Says 11 n list space
          unfolding write_number
          says_short u = rw (eq-eqb (length list % 2) 0 even, ← s, ← p, ← d, lt-ltb space (table_length n (pairs list)) u)

          pub says_none : table_length n (pairs list) ≤ space → Says 0 n list space
          unfolding write_number
          says_none u = rw (eq-eqb (length list % 2) 0 even, ← s, ← p, ← d, le-ltb space (table_length n (pairs list)) u)

module _ (n : ℕ) (list out : List ℕ) (w : Result (Unit {0}) Refusal) (ew : w ≡ answered (write_number n list (length out)) tt) where
  pub refused : (e : Refusal) → w ≡ Err e → (Err e ≡ writing_of n list out) × (out ≡ written n list out)
  unfolding writing_of
  refused e f = (
    passed_on (write_number n list (length out)) tt _ (sym ew ∙ f),
    written_refused n list out (answered_err (write_number n list (length out)) tt (sym ew ∙ f)),
  )

  pub none : (u : Unit {0}) → w ≡ Ok u → write_number n list (length out) ≡ 0
  none u f = (answered_ok (write_number n list (length out)) tt (sym ew ∙ f)).0

  pub fit : (u : Unit {0}) → w ≡ Ok u → Fit n list (length out)
  fit u f = (write_number_P n list (length out)).0 (none u f)
