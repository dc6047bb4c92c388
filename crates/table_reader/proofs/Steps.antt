-- Laws on a step along a chain, one for each way that the code goes.
--   next_of_short, next_of_zero, next_of_over, next_of_past   == the end: under 4 bytes, from arc 0, from an arc over M, from one past the bytes
--   next_of_end, next_of_arc   == the next field of an arc inside: 0, or not
-- Assumes nothing.
use Prim.Native.Nat.{ℕ, zero, suc, ◌≤◌, ◌<◌}
use mathlib.Core.Path.{◌≡◌, refl, sym, ap, ◌∙◌}
use mathlib.Core.List.{List}
use native.Mathlib.Omega.{arith}
use borrow.Author.Tests.{le-leb, lt-leb}
use lib.ListN.{length}
use Rattle.tables.specs.declared.Chain.{Chain}
use Rattle.std.specs.Prelude.{Some, None}
use Rattle.tables.specs.Table.{field_of, n_of, m_of, table_length, arc_at, next}
use Rattle.tables.specs.Walking.{next_of, arc_inside, next_answer}

next_answer_end : (k : ℕ) → k ≡ 0 → None ≡ next_answer k
unfolding next_answer
next_answer_end zero e = refl
next_answer_end (suc k) e = absurd (omega arith)

next_answer_arc : (k : ℕ) → (k ≡ 0 → ⊥) → Some k ≡ next_answer k
unfolding next_answer
next_answer_arc zero e = absurd (e refl)
next_answer_arc (suc k) e = refl

module _ (bs : List ℕ) (c : Chain) (k : ℕ) where
  pub next_of_short : length bs < 4 → None ≡ next_of bs c k
  unfolding next_of arc_inside
  next_of_short h = rw (lt-leb 4 (length bs) h)

  pub next_of_zero : 4 ≤ length bs → k ≡ 0 → None ≡ next_of bs c k
  unfolding next_of arc_inside
  next_of_zero long h = rw (le-leb 4 (length bs) long, lt-leb 1 k (omega arith))

  pub next_of_over : 4 ≤ length bs → (k ≡ 0 → ⊥) → m_of (field_of bs) < k → None ≡ next_of bs c k
  unfolding next_of arc_inside
  next_of_over long low h = rw (le-leb 4 (length bs) long, le-leb 1 k (omega arith), lt-leb k (m_of (field_of bs)) h)

  pub next_of_past : 4 ≤ length bs → (k ≡ 0 → ⊥) → k ≤ m_of (field_of bs) → length bs < table_length (n_of (field_of bs)) k → None ≡ next_of bs c k
  unfolding next_of arc_inside
  next_of_past long low high h =
      rw (le-leb 4 (length bs) long, le-leb 1 k (omega arith), le-leb k (m_of (field_of bs)) high, lt-leb (table_length (n_of (field_of bs)) k) (length bs) h)

  inside : 4 ≤ length bs → (k ≡ 0 → ⊥) → k ≤ m_of (field_of bs) → table_length (n_of (field_of bs)) k ≤ length bs
      → next_of bs c k ≡ next_answer (next c (arc_at (field_of bs) k))
  unfolding next_of arc_inside
  inside long low high h =
      rw (le-leb 4 (length bs) long, le-leb 1 k (omega arith), le-leb k (m_of (field_of bs)) high, le-leb (table_length (n_of (field_of bs)) k) (length bs) h)

  module _ (long : 4 ≤ length bs) (low : k ≡ 0 → ⊥) (high : k ≤ m_of (field_of bs)) (within : table_length (n_of (field_of bs)) k ≤ length bs) (j : ℕ)
      (e : j ≡ next c (arc_at (field_of bs) k)) where
    pub next_of_end : j ≡ 0 → None ≡ next_of bs c k
    next_of_end z = next_answer_end (next c (arc_at (field_of bs) k)) (sym e ∙ z) ∙ sym (inside long low high within)

    pub next_of_arc : (j ≡ 0 → ⊥) → Some j ≡ next_of bs c k
    next_of_arc z = ap Some e ∙ next_answer_arc (next c (arc_at (field_of bs) k)) (λ q. z (e ∙ q)) ∙ sym (inside long low high within)
