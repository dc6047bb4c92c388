-- Laws of the fields of a table.
--   field_of_small                == a field is below 2 ^ 16 where each byte is below 2 ^ 8
--   arc_at_made                   == an arc record put together from the four fields where it lies
--   sizes_fit_P, sizes_fit_not     == the test of N and M says that they are in their ranges, or that they are not
--   is_process_P, check_process   == the test of a process says that it is one, or that it is none
-- Assumes nothing.
use Rattle.std.specs.Prelude.{ℕ, ◌+◌, ◌-◌, ◌*◌, ◌≤◌, ◌<◌, true, false, List, ◌↔◌, ◌≡◌, leb, get_or}
use Rattle.std.proofs.lemmas.Bool.{false≢true}
use Rattle.std.proofs.Common.{sym, ap, ◌∙◌, leb-true, le-leb, arith}
use Rattle.base.specs.ChoiceLaws.{and_left, and_right, and_both, and_three, tested}
use Rattle.base.specs.Checks.{Tested, passed, failed}
use Rattle.base.specs.Checks.{Check}
use Rattle.base.specs.CheckLaws.{check_of}
use Rattle.tables.specs.declared.Arc.{Arc}
use Rattle.tables.specs.Table.{Fields, field_of, n_of, most_processes, most_arcs, SizesFit, sizes_fit, IsProcess, is_process, arc_at}

pub field_of_small : (bs : List ℕ) → ((i : ℕ) → get_or bs i 0 < 256) → (j : ℕ) → field_of bs j < 65536
unfolding field_of
field_of_small bs small j = omega (arith, small (2 * j), small (2 * j + 1))

-- a field's value, where its place is computed in another way
at_field : (t : Fields) (v i j : ℕ) → v ≡ t i → i ≡ j → v ≡ t j
at_field t v i j e p = e ∙ ap t p

pub arc_at_made :
    (t : Fields) (n k a b c d : ℕ) →
    n ≡ n_of t →
    1 ≤ k →
    a ≡ t (2 * n + 4 * k - 2) →
    b ≡ t (2 * n + 4 * k - 2 + 1) →
    c ≡ t (2 * n + 4 * k - 2 + 2) →
    d ≡ t (2 * n + 4 * k - 2 + 3) →
    ◌≡◌ {A = Arc} (record { from = a; to = b; next_out = c; next_in = d }) (arc_at t k)
unfolding arc_at
arc_at_made t n k a b c d en low ea eb ec ed =
    λ i. record {
      from = at_field t a _ (2 * n_of t + 4 * k - 2) ea (omega arith) i;
      to = at_field t b _ (2 * n_of t + 4 * k - 1) eb (omega arith) i;
      next_out = at_field t c _ (2 * n_of t + 4 * k) ec (omega arith) i;
      next_in = at_field t d _ (2 * n_of t + 4 * k + 1) ed (omega arith) i;
    }

pub sizes_fit_P : (n m : ℕ) → (sizes_fit n m ≡ true) ↔ SizesFit n m
sizes_fit_P n m = (to, λ s. rw (le-leb 1 n s.0, le-leb n most_processes s.1, le-leb m most_arcs s.2))
  where
    to : sizes_fit n m ≡ true → SizesFit n m
    to e =
        let s = and_three (leb 1 n) (leb n most_processes) (leb m most_arcs) e in
        (leb-true 1 n s.0, leb-true n most_processes s.1, leb-true m most_arcs s.2)

pub sizes_fit_not : (n m : ℕ) → (SizesFit n m → ⊥) → sizes_fit n m ≡ false
sizes_fit_not n m h = at (tested (sizes_fit n m))
  where
    at : Tested (sizes_fit n m) → sizes_fit n m ≡ false
    at (passed e) = absurd (h ((sizes_fit_P n m).0 e))
    at (failed e) = e

pub is_process_P : (n p : ℕ) → (is_process n p ≡ true) ↔ IsProcess n p
unfolding is_process
is_process_P n p = (
  λ e. (leb-true 1 p (and_left (leb 1 p) (leb p n) e), leb-true p n (and_right (leb 1 p) (leb p n) e)),
  λ h. and_both (leb 1 p) (leb p n) (le-leb 1 p h.0) (le-leb p n h.1),
)

pub check_process : (n p : ℕ) → Check (is_process n p) (IsProcess n p) (IsProcess n p → ⊥)
check_process n p = check_of (is_process n p) _ _ (is_process_P n p).0 (λ e h. false≢true (sym e ∙ (is_process_P n p).1 h))
