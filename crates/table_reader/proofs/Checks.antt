-- Laws on the tests of one process or arc, for each way that the code's loops go.
--   ends_right_from, ends_right_to, ends_right_both       == check 4: the arc's from is no process, its to is none, or both are
--   firsts_right_out, firsts_right_in, firsts_right_both  == check 5: a first is over M, or neither is
--   nexts_right_out, nexts_right_in, nexts_right_both     == check 5: a next is over M, or neither is
--   ends_in                 == what check 4 tells of each arc
--   first_low, next_low     == what check 5 tells of each process, and of each arc
-- Assumes nothing.
use Prim.Native.Nat.{ℕ, ◌≤◌, ◌<◌}
use mathlib.Core.Bool.{true, false, ◌&&◌}
use mathlib.Core.Path.{◌≡◌, ◌∙◌}
use borrow.Author.Tests.{le-leb, lt-leb, leb-true}
use lib.Dec.{leb}
use Rattle.base.specs.ChoiceLaws.{and_left, and_right}
use Rattle.base.specs.SumLaws.{all_to_at}
use Rattle.tables.specs.declared.Arc.{Arc}
use Rattle.tables.specs.declared.Chain.{Chain}
use Rattle.tables.specs.declared.Chain.TheVariants.{Out, In}
use Rattle.tables.specs.Table.{Fields, n_of, m_of, IsProcess, is_process, first, arc_at, next}
use Rattle.tables.specs.Layout.{Ends}
use Rattle.tables.specs.TableLaws.{is_process_P}
use Rattle.tables.specs.Reading.{ends_right, firsts_right, nexts_right}
use Rattle.table_reader.specs.Inner.{Linked}

-- ---- check 4

module _ (t : Fields) (n k : ℕ) (a : Arc) (en : n ≡ n_of t) (ea : a ≡ arc_at t k) where
  -- the arc's two tests, as the code makes them
  ends_parts : ends_right t k ≡ (is_process n a.from && is_process n a.to)
  unfolding ends_right
  ends_parts = rw (en, ea)

  pub ends_right_from : false ≡ is_process n a.from → ends_right t k ≡ false
  ends_right_from e = ends_parts ∙ rw (← e)

  pub ends_right_to : true ≡ is_process n a.from → false ≡ is_process n a.to → ends_right t k ≡ false
  ends_right_to e f = ends_parts ∙ rw (← e, ← f)

  pub ends_right_both : true ≡ is_process n a.from → true ≡ is_process n a.to → ends_right t k ≡ true
  ends_right_both e f = ends_parts ∙ rw (← e, ← f)

-- what check 4 tells of an arc
pub ends_in : (t : Fields) (k : ℕ) → ends_right t k ≡ true → Ends t k
unfolding ends_right
ends_in t k e =
    let n = n_of t in
    let a = arc_at t k in (
      (is_process_P n a.from).0 (and_left (is_process n a.from) (is_process n a.to) e),
      (is_process_P n a.to).0 (and_right (is_process n a.from) (is_process n a.to) e),
    )

-- ---- check 5

module _ (t : Fields) (m p i : ℕ) (em : m ≡ m_of t) (ei : i ≡ first Out t p) where
  pub firsts_right_out : m < i → firsts_right t p ≡ false
  unfolding firsts_right
  firsts_right_out h = rw (← ei, ← em, lt-leb i m h)

  pub firsts_right_in : (j : ℕ) → j ≡ first In t p → i ≤ m → m < j → firsts_right t p ≡ false
  unfolding firsts_right
  firsts_right_in j ej h g = rw (← ei, ← ej, ← em, le-leb i m h, lt-leb j m g)

  pub firsts_right_both : (j : ℕ) → j ≡ first In t p → i ≤ m → j ≤ m → firsts_right t p ≡ true
  unfolding firsts_right
  firsts_right_both j ej h g = rw (← ei, ← ej, ← em, le-leb i m h, le-leb j m g)

module _ (t : Fields) (m k : ℕ) (a : Arc) (em : m ≡ m_of t) (ea : a ≡ arc_at t k) where
  pub nexts_right_out : m < a.next_out → nexts_right t k ≡ false
  unfolding nexts_right next
  nexts_right_out h = rw (← ea, ← em, lt-leb a.next_out m h)

  pub nexts_right_in : a.next_out ≤ m → m < a.next_in → nexts_right t k ≡ false
  unfolding nexts_right next
  nexts_right_in h g = rw (← ea, ← em, le-leb a.next_out m h, lt-leb a.next_in m g)

  pub nexts_right_both : a.next_out ≤ m → a.next_in ≤ m → nexts_right t k ≡ true
  unfolding nexts_right next
  nexts_right_both h g = rw (← ea, ← em, le-leb a.next_out m h, le-leb a.next_in m g)

first_at : (c : Chain) (t : Fields) (p : ℕ) → firsts_right t p ≡ true → first c t p ≤ m_of t
unfolding firsts_right
first_at Out t p e = leb-true (first Out t p) (m_of t) (and_left (leb (first Out t p) (m_of t)) (leb (first In t p) (m_of t)) e)
first_at In t p e = leb-true (first In t p) (m_of t) (and_right (leb (first Out t p) (m_of t)) (leb (first In t p) (m_of t)) e)

next_at : (c : Chain) (t : Fields) (k : ℕ) → nexts_right t k ≡ true → next c (arc_at t k) ≤ m_of t
unfolding nexts_right
next_at Out t k e =
    leb-true (next Out (arc_at t k)) (m_of t) (and_left (leb (next Out (arc_at t k)) (m_of t)) (leb (next In (arc_at t k)) (m_of t)) e)
next_at In t k e =
    leb-true (next In (arc_at t k)) (m_of t) (and_right (leb (next Out (arc_at t k)) (m_of t)) (leb (next In (arc_at t k)) (m_of t)) e)

pub first_low : (c : Chain) (t : Fields) (p : ℕ) → Linked t → IsProcess (n_of t) p → first c t p ≤ m_of t
first_low c t p h r = first_at c t p (all_to_at (n_of t) (firsts_right t) h.firsts p r.0 r.1)

pub next_low : (c : Chain) (t : Fields) (k : ℕ) → Linked t → 1 ≤ k → k ≤ m_of t → next c (arc_at t k) ≤ m_of t
next_low c t k h l u = next_at c t k (all_to_at (m_of t) (nexts_right t) h.nexts k l u)
