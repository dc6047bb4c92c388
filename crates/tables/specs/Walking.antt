-- A walk along one chain: how it is opened, and its step, on any bytes.
--   open_number bs p    == "Opening it .. checks 1 to 7, then 8 for that process": the first row that is met, 0 if none is
--   or_else q r         == the first of two numbers that is no 0
--   opened_of bs c p    == the answer: the arc that the walk stands at, or the refusal with that number
--   opened_number, opened_arc   == for each case of that answer 01's number and value, zeros elsewhere
--   arc_inside bs k     == k is an arc by the bytes' own M, and its record lies wholly inside them
--   next_answer, next_of bs c k   == a step from arc k: the next arc, or the end
--   next_arc            == for each case of that answer the arc's number, 0 at the end
-- Assumes nothing.
use Rattle.std.specs.Prelude.{ℕ, zero, suc, Bool, ◌&&◌, List, Option, Some, None, Result, Ok, Err, leb, length}
use Rattle.base.specs.Choice.{choose}
use Rattle.refusals.specs.declared.Refusal.{Refusal}
use Rattle.refusals.specs.Numbers.{answered, number_of}
use Rattle.tables.specs.declared.Chain.{Chain}
use Rattle.tables.specs.Table.{field_of, n_of, m_of, table_length, is_process, first, arc_at, next}
use Rattle.tables.specs.Reading.{read_number}

-- the first of two numbers that is no 0
unfoldable pub or_else : ℕ → ℕ → ℕ
or_else zero r = r
or_else (suc q) r = suc q

-- "checks 1 to 7, then 8 for that process"
unfoldable pub open_number : List ℕ → ℕ → ℕ
open_number bs p = or_else (read_number bs) (choose (is_process (n_of (field_of bs)) p) 0 8)

-- "stands at the chain's first arc, or 0 if it has none"
unfoldable pub opened_of : List ℕ → Chain → ℕ → Result ℕ Refusal
opened_of bs c p = answered (open_number bs p) (first c (field_of bs) p)

-- 01's number for each case of the answer, and its value, zeros elsewhere
abbrev pub opened_number : Result ℕ Refusal → ℕ
opened_number a = number_of a

abbrev pub opened_arc : Result ℕ Refusal → ℕ
opened_arc (Ok k) = k
opened_arc (Err e) = 0

-- k is an arc by the bytes' own M, and its record lies wholly inside them
unfoldable pub arc_inside : List ℕ → ℕ → Bool
arc_inside bs k = leb 4 (length bs) && leb 1 k && leb k (m_of (field_of bs)) && leb (table_length (n_of (field_of bs)) k) (length bs)

-- 0 is the end
unfoldable pub next_answer : ℕ → Option ℕ
next_answer zero = None
next_answer (suc k) = Some (suc k)

-- "A step gives the next arc or the end; from an arc number that is 0, over M or past the lent bytes it gives the end."
unfoldable pub next_of : List ℕ → Chain → ℕ → Option ℕ
next_of bs c k = choose (arc_inside bs k) (next_answer (next c (arc_at (field_of bs) k))) None

abbrev pub next_arc : Option ℕ → ℕ
next_arc (Some k) = k
next_arc None = 0
