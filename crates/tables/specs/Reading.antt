-- Reading a table by tests, in the order that the code follows ("Reading a table checks 1 to 7 in order").
--   Left              == a number of arcs left (left l), or a refusal (wrong)
--   walked c t p l k  == the chain of p followed from arc k with l arcs left; each arc must be p's own
--   then_walked, walked_to, none_left   == one chain after others; the chains of 1 to p; no arc is left
--   chains_right c t   == every chain followed in turn, with M arcs left at first and none at the end (row 6 if not)
--   sizes_right t, ends_right t k, firsts_right t p, nexts_right t k   == the tests of the rows 2, 4 and 5
--   unlike_before t k  == arc k agrees in both ends with no earlier arc (row 7)
--   fields_number t    == the first of the rows 4 to 7 that is met, 0 if none is
--   read_number bs     == the first row that is met, 0 if none is
--   reading_of bs      == the answer: N and M, or the refusal with that number
-- Assumes nothing.
use Rattle.std.specs.Prelude.{ℕ, zero, suc, ◌-◌, Bool, true, false, not, ◌&&◌, List, Result, eqb, leb, ltb, length}
use Rattle.base.specs.Choice.{choose}
use Rattle.base.specs.Sums.{all_to}
use Rattle.refusals.specs.declared.Refusal.{Refusal}
use Rattle.refusals.specs.Numbers.{answered}
use Rattle.tables.specs.declared.Chain.{Chain}
use Rattle.tables.specs.declared.Chain.TheVariants.{Out, In}
use Rattle.tables.specs.declared.Sizes.{Sizes}
use Rattle.tables.specs.Table.{Fields, field_of, n_of, m_of, sizes_of, sizes_fit, table_length, is_process, first, arc_at, says_wait, near, next}

-- a number of arcs left, or a refusal
pub data Left : Type 0 where
  left : ℕ → Left
  wrong : Left

-- the chain of p from arc k on, with so many arcs left (which also bound the walk): the end at 0; an arc that is not p's own is wrong,
-- and so is an arc where none is left
unfoldable pub walked : Chain → Fields → ℕ → ℕ → ℕ → Left
walked c t p zero zero = left zero
walked c t p zero (suc k) = wrong
walked c t p (suc l) zero = left (suc l)
walked c t p (suc l) (suc k) =
    let rest : Left = walked c t p l (next c (arc_at t (suc k))) in
    choose (eqb (near c (arc_at t (suc k))) p) rest wrong

abbrev pub then_walked : Chain → Fields → ℕ → Left → Left
then_walked c t p wrong = wrong
then_walked c t p (left l) = walked c t p l (first c t p)

-- the chains of 1 to p, one after the other
unfoldable pub walked_to : Chain → Fields → ℕ → Left
walked_to c t zero = left (m_of t)
walked_to c t (suc p) = then_walked c t (suc p) (walked_to c t p)

abbrev pub none_left : Left → Bool
none_left (left zero) = true
none_left (left (suc l)) = false
none_left wrong = false

unfoldable pub chains_right : Chain → Fields → Bool
chains_right c t = none_left (walked_to c t (n_of t))

unfoldable pub sizes_right : Fields → Bool
sizes_right t = sizes_fit (n_of t) (m_of t)

unfoldable pub ends_right : Fields → ℕ → Bool
ends_right t k = is_process (n_of t) (arc_at t k).from && is_process (n_of t) (arc_at t k).to

unfoldable pub firsts_right : Fields → ℕ → Bool
firsts_right t p = leb (first Out t p) (m_of t) && leb (first In t p) (m_of t)

unfoldable pub nexts_right : Fields → ℕ → Bool
nexts_right t k = leb (next Out (arc_at t k)) (m_of t) && leb (next In (arc_at t k)) (m_of t)

-- arc k has other ends than each arc before it
unfoldable pub unlike_before : Fields → ℕ → Bool
unlike_before t k = all_to (k - 1) (λ j. not (says_wait t (arc_at t k).from (arc_at t k).to j))

-- checks 4 to 7 on the fields of a table whose sizes are right: the first that is met, or 0
unfoldable pub fields_number : Fields → ℕ
fields_number t =
    choose (not (all_to (m_of t) (ends_right t))) 4
    (choose (not (all_to (n_of t) (firsts_right t) && all_to (m_of t) (nexts_right t))) 5
    (choose (not (chains_right Out t && chains_right In t)) 6
    (choose (not (all_to (m_of t) (unlike_before t))) 7
    0)))

-- checks 1 to 7
unfoldable pub read_number : List ℕ → ℕ
read_number bs =
    choose (ltb (length bs) 4) 1
    (choose (not (sizes_right (field_of bs))) 2
    (choose (not (eqb (length bs) (table_length (n_of (field_of bs)) (m_of (field_of bs))))) 3
    (fields_number (field_of bs))))

unfoldable pub reading_of : List ℕ → Result Sizes Refusal
reading_of bs = answered (read_number bs) (sizes_of (field_of bs))
