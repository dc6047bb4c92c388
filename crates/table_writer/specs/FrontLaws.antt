-- Laws of the front of a chain while arcs are put, and of the fields that are written.
--   front_hit, front_miss   == one more arc put: at the front of its own chain, and no other chain changes
--   front_le, front_own     == a front is among the arcs put and is its process's own
--   front_last              == no arc of p's comes after the front
--   written_field_process, written_field_arc   == the field at a place of a record
-- Assumes nothing.
use Prim.Native.Nat.{ℕ, zero, suc, ◌+◌, ◌-◌, ◌*◌, ◌/◌, ◌%◌, ◌≤◌, ◌<◌}
use Rattle.std.specs.Prelude.{List, ◌≡◌}
use Rattle.std.proofs.Common.{sym, ◌∙◌}
use borrow.Author.Tests.{lt-ltb, le-ltb, ne_eqb, eq-eqb}
use native.Mathlib.Omega.{arith}
use Rattle.base.specs.ChoiceLaws.{same?}
use Rattle.base.specs.Checks.{Same, same, apart}
use Rattle.tables.specs.declared.Chain.{Chain}
use Rattle.tables.specs.Table.{IsProcess}
use Rattle.table_writer.specs.Writing.{end, front, process_field, arc_field, written_field}

module _ (c : Chain) (list : List ℕ) (p : ℕ) where
  pub front_hit : (k : ℕ) → end c list (suc k) ≡ p → front c list p (suc k) ≡ suc k
  unfolding front
  front_hit k e = rw (eq-eqb (end c list (suc k)) p e)

  pub front_miss : (k : ℕ) → (end c list (suc k) ≡ p → ⊥) → front c list p (suc k) ≡ front c list p k
  unfolding front
  front_miss k e = rw (ne_eqb (end c list (suc k)) p e)

  pub front_le : (k : ℕ) → front c list p k ≤ k
  unfolding front
  front_le zero = omega arith
  front_le (suc k) = at (same? (end c list (suc k)) p) (front_le k)
    where
      at : Same (end c list (suc k)) p → front c list p k ≤ k → front c list p (suc k) ≤ suc k
      at (same e _) below = rw (front_hit k e) (omega arith)
      at (apart e _) below = rw (front_miss k e) (omega arith)

  pub front_own : (k j : ℕ) → front c list p k ≡ suc j → end c list (suc j) ≡ p
  unfolding front
  front_own zero j f = absurd (omega arith)
  front_own (suc k) j f = at (same? (end c list (suc k)) p) (front_own k j)
    where
      at : Same (end c list (suc k)) p → (front c list p k ≡ suc j → end c list (suc j) ≡ p) → end c list (suc j) ≡ p
      at (same e _) below = rw (sym f ∙ front_hit k e) e
      at (apart e _) below = below (sym (front_miss k e) ∙ f)

  pub front_last : (k j : ℕ) → 1 ≤ j → j ≤ k → end c list j ≡ p → j ≤ front c list p k
  front_last zero j l u o = absurd (omega arith)
  front_last (suc k) j l u o = at (same? (end c list (suc k)) p) (same? j (suc k)) (λ v. front_last k j l v o)
    where
      at : Same (end c list (suc k)) p → Same j (suc k) → (j ≤ k → j ≤ front c list p k) → j ≤ front c list p (suc k)
      at (same e _) (same i _) below = rw (front_hit k e) u
      at (same e _) (apart i _) below = rw (front_hit k e) u
      at (apart e _) (same i _) below = absurd (e (rw i at o))
      at (apart e _) (apart i _) below = rw (front_miss k e) (below (omega arith))

module _ (n : ℕ) (list : List ℕ) where
  pub written_field_process : (p i j : ℕ) → IsProcess n p → i < 2 → j ≡ 2 * p + i → written_field n list j ≡ process_field list p i
  unfolding written_field
  written_field_process p i j r s e =
      let half : j / 2 ≡ p = omega arith in
      let part : j % 2 ≡ i = omega arith in
      rw (ne_eqb j 0 (omega arith), ne_eqb j 1 (omega arith), lt-ltb j (2 + 2 * n) (omega arith), half, part)

  pub written_field_arc : (k i j : ℕ) → 1 ≤ k → i < 4 → j ≡ 2 * n + 4 * k - 2 + i → written_field n list j ≡ arc_field list k i
  unfolding written_field
  written_field_arc k i j l s e =
      let whole : (j - (2 + 2 * n)) / 4 + 1 ≡ k = omega arith in
      let part : (j - (2 + 2 * n)) % 4 ≡ i = omega arith in
      rw (ne_eqb j 0 (omega arith), ne_eqb j 1 (omega arith), le-ltb j (2 + 2 * n) (omega arith), whole, part)
