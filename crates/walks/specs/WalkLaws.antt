-- Laws of walks.
--   whole_walk      == on a table that meets the layout, what a walk meets is the whole chain of its process
--   arcs_met_met     == that list is the chain's (met, crate tables), however many steps beyond M are allowed
--   opened_P        == an opening is accepted exactly if the bytes meet the layout and p is a process of the table
--   refused_stands  == a walk whose opening was refused stands at 0
--   steps_on_next    == one step more is a step of the walk that the others left
--   keeps           == "Steps keep to the chain named", and to the table and the number
--   gives_zero, gives_over, gives_past   == "from an arc number that is 0, over M or past the lent bytes it gives the end", on any bytes
-- Assumes nothing.
use Prim.Native.Nat.{ℕ, zero, suc, ◌≤◌, ◌<◌}
use Rattle.refusals.specs.declared.Refusal.{Refusal}
use Rattle.refusals.specs.Numbers.{answered, number_of}
use Rattle.refusals.specs.NumberLaws.{number_of_low}
use Rattle.tables.specs.WalkingLaws.{open_number_low}
use Rattle.std.specs.Prelude.{Bool, true, ◌&&◌, Option, Some, None, Result, Ok, Err, ◌↔◌, ◌≡◌, leb, get_or}
use mathlib.Core.List.{List, ◌∷◌}
use Rattle.std.proofs.Math.Path.{refl, ap}
use Rattle.std.proofs.Common.{sym, ◌∙◌}
use Rattle.std.proofs.Math.ListN.{length, get_or-eq_default}
use borrow.Author.Tests.{le-leb, leb-true}
use native.Mathlib.Omega.{arith}
use Rattle.std.specs.Borrow.{Bor}
use Rattle.base.specs.Choice.{choose}
use Rattle.base.specs.ChoiceLaws.{tested, and_left, and_right, bit_same}
use Rattle.base.specs.Checks.{Tested, passed, failed}
use Rattle.tables.specs.declared.Chain.{Chain}
use Rattle.tables.specs.Table.{Fields, field_of, n_of, m_of, table_length, IsProcess, is_process, first, arc_at, near, next, follow, place}
use Rattle.tables.specs.TableLaws.{is_process_P}
use Rattle.tables.specs.Layout.{Right, MeetsLayout}
use Rattle.tables.specs.LayoutLaws.{accepted_P}
use Rattle.tables.specs.Reading.{read_number}
use Rattle.tables.specs.Walking.{or_else, open_number, opened_of, opened_arc, arc_inside, next_answer, next_of, next_arc}
use Rattle.tables.specs.Chains.{Follows, stop, go, steps, along, met, Listed}
use Rattle.tables.specs.ChainLaws.{place_steps, follows_along, follows_steps}
use Rattle.tables.specs.MetLaws.{met_listed}
use Rattle.walks.specs.declared.Walk.{Walk}
use Rattle.walks.specs.Walk.{walk_number, opened_walk, gives, stepped_walk, steps_on, arcs_met, WholeWalk}

-- ---- a step, on any bytes

-- an arc from which a step may go on
record InsideAt (bs : List ℕ) (k : ℕ) : Type 0 where
  long : 4 ≤ length bs
  low : 1 ≤ k
  high : k ≤ m_of (field_of bs)
  within : table_length (n_of (field_of bs)) k ≤ length bs

inside_at : (bs : List ℕ) (k : ℕ) → arc_inside bs k ≡ true → InsideAt bs k
unfolding arc_inside
inside_at bs k e =
    let a : Bool = leb 4 (length bs) in
    let b : Bool = leb 1 k in
    let m : Bool = leb k (m_of (field_of bs)) in
    let l : Bool = leb (table_length (n_of (field_of bs)) k) (length bs) in
    let abm : (a && b && m) ≡ true = and_left (a && b && m) l e in
    let ab : (a && b) ≡ true = and_left (a && b) m abm in
    record {
      long = leb-true 4 (length bs) (and_left a b ab);
      low = leb-true 1 k (and_right a b ab);
      high = leb-true k (m_of (field_of bs)) (and_right (a && b) m abm);
      within = leb-true (table_length (n_of (field_of bs)) k) (length bs) (and_right (a && b && m) l e);
    }

outside : (bs : List ℕ) (c : Chain) (k : ℕ) → (InsideAt bs k → ⊥) → next_of bs c k ≡ None
unfolding next_of
outside bs c k h = at (tested (arc_inside bs k))
  where
    at : Tested (arc_inside bs k) → next_of bs c k ≡ None
    at (passed e) = absurd (h (inside_at bs k e))
    at (failed e) = rw e

pub gives_zero : (w : Walk) → w.arc ≡ 0 → gives w ≡ None
gives_zero w e = outside w.table.now w.chain w.arc (λ i. omega arith)

pub gives_over : (w : Walk) → m_of (field_of w.table.now) < w.arc → gives w ≡ None
gives_over w h = outside w.table.now w.chain w.arc (λ i. omega arith)

pub gives_past : (w : Walk) → length w.table.now < table_length (n_of (field_of w.table.now)) w.arc → gives w ≡ None
gives_past w h = outside w.table.now w.chain w.arc (λ i. omega arith)

pub keeps : (i : ℕ) (w : Walk) → ((steps_on i w).table ≡ w.table) × ((steps_on i w).chain ≡ w.chain) × ((steps_on i w).number ≡ w.number)
unfolding steps_on
keeps zero w = (refl, refl, refl)
keeps (suc i) w = keeps i (stepped_walk w)

pub steps_on_next : (i : ℕ) (w : Walk) → steps_on (suc i) w ≡ stepped_walk (steps_on i w)
unfolding steps_on
steps_on_next zero w = refl
steps_on_next (suc i) w = steps_on_next i (stepped_walk w)

-- ---- opening

open_answer_number : (n k : ℕ) → n ≤ 13 → number_of (answered n k) ≡ n
open_answer_number n k h = number_of_low n k h

open_answer_stands : (n k : ℕ) → (number_of (answered n k) ≡ 0 → ⊥) → opened_arc (answered n k) ≡ 0
open_answer_stands zero k h = absurd (h refl)
open_answer_stands (suc n) k h = refl

opening_number : (bs : List ℕ) (c : Chain) (p : ℕ) → number_of (opened_of bs c p) ≡ open_number bs p
unfolding opened_of
opening_number bs c p = open_answer_number (open_number bs p) (first c (field_of bs) p) (omega (arith, open_number_low bs p))

-- checks 1 to 8 find nothing
record Accepts (bs : List ℕ) (p : ℕ) : Type 0 where
  read : read_number bs ≡ 0
  process : is_process (n_of (field_of bs)) p ≡ true

accepts : (bs : List ℕ) (p : ℕ) → open_number bs p ≡ 0 → Accepts bs p
unfolding open_number or_else
accepts bs p e = at (read_number bs) refl (tested (is_process (n_of (field_of bs)) p)) e
  where
    at : (n : ℕ) → read_number bs ≡ n → Tested (is_process (n_of (field_of bs)) p) → or_else n (choose (is_process (n_of (field_of bs)) p) 0 8) ≡ 0 → Accepts bs p
    at zero r (passed q) h = record { read = r; process = q }
    at zero r (failed q) h = absurd (omega (arith, rw q at h))
    at (suc n) r q h = absurd (omega arith)

opened_first : (bs : List ℕ) (c : Chain) (p : ℕ) → MeetsLayout bs → IsProcess (n_of (field_of bs)) p → opened_of bs c p ≡ Ok (first c (field_of bs) p)
unfolding opened_of open_number or_else
opened_first bs c p good q = rw ((accepted_P bs).1 good, (is_process_P (n_of (field_of bs)) p).1 q)

opened_P : (table : Bor (List ℕ)) (c : Chain) (p : ℕ)
    → (walk_number (opened_walk table c p) ≡ 0) ↔ (MeetsLayout table.now × IsProcess (n_of (field_of table.now)) p)
opened_P table c p = (λ e. met (accepts bs p (sym (opening_number bs c p) ∙ e)), λ g. ap number_of (opened_first bs c p g.0 g.1))
  where
    bs : List ℕ
    bs = table.now

    met : Accepts bs p → MeetsLayout bs × IsProcess (n_of (field_of bs)) p
    met a = ((accepted_P bs).0 a.read, (is_process_P _ p).0 a.process)

pub refused_stands : (table : Bor (List ℕ)) (c : Chain) (p : ℕ) → (walk_number (opened_walk table c p) ≡ 0 → ⊥) → (opened_walk table c p).arc ≡ 0
unfolding opened_of
refused_stands table c p h =
    open_answer_stands (open_number table.now p) (first c (field_of table.now) p) h

-- ---- the walk on a table that meets the layout

next_arc_answer : (k : ℕ) → next_arc (next_answer k) ≡ k
unfolding next_answer
next_arc_answer zero = refl
next_arc_answer (suc k) = refl

next_answer_arc : (k : ℕ) → 1 ≤ k → next_answer k ≡ Some k
unfolding next_answer
next_answer_arc zero h = absurd (omega arith)
next_answer_arc (suc k) h = refl

next_answer_end : (k : ℕ) → k ≡ 0 → next_answer k ≡ None
unfolding next_answer
next_answer_end zero h = refl
next_answer_end (suc k) h = absurd (omega arith)

-- no place before the end is 0
follows_low : {c : Chain} {t : Fields} {k : ℕ} {ks : List ℕ} (i : ℕ) → Follows c t k ks → i < length ks → 1 ≤ get_or ks i 0
follows_low i stop h = absurd (omega arith)
follows_low zero (go f) h = omega arith
follows_low (suc i) (go f) h = follows_low i f (omega arith)

module _ (bs : List ℕ) (good : MeetsLayout bs) (c : Chain) where
  inside : (k : ℕ) → 1 ≤ k → k ≤ m_of (field_of bs) → next_of bs c k ≡ next_answer (next c (arc_at (field_of bs) k))
  unfolding next_of arc_inside
  inside k low high =
      let long : length bs ≡ table_length (n_of (field_of bs)) (m_of (field_of bs)) = good.long in
      rw (
        le-leb 4 (length bs) (omega arith),
        le-leb 1 k low,
        le-leb k (m_of (field_of bs)) high,
        le-leb (table_length (n_of (field_of bs)) k) (length bs)
            (omega arith),
      )

  answers : (k : ℕ) → k ≤ m_of (field_of bs) → next_of bs c k ≡ next_answer (follow c (field_of bs) k)
  unfolding follow next_answer
  answers zero high = outside bs c 0 (λ i. omega arith)
  answers (suc k) high = inside (suc k) (omega arith) high

  leads : (k : ℕ) → k ≤ m_of (field_of bs) → next_arc (next_of bs c k) ≡ follow c (field_of bs) k
  leads k high = ap next_arc (answers k high) ∙ next_arc_answer (follow c (field_of bs) k)

  follow_inside : (k : ℕ) → k ≤ m_of (field_of bs) → follow c (field_of bs) k ≤ m_of (field_of bs)
  unfolding follow
  follow_inside zero high = omega arith
  follow_inside (suc k) high = good.right.nexts c (suc k) (omega arith, high)

  place_inside : (p : ℕ) → IsProcess (n_of (field_of bs)) p → (i : ℕ) → place c (field_of bs) p i ≤ m_of (field_of bs)
  unfolding place
  place_inside p q zero = good.right.firsts c p q
  place_inside p q (suc i) = follow_inside (place c (field_of bs) p i) (place_inside p q i)

  next_place : (p : ℕ) → IsProcess (n_of (field_of bs)) p → (i : ℕ) → next_of bs c (place c (field_of bs) p i) ≡ next_answer (place c (field_of bs) p (suc i))
  unfolding place
  next_place p q i = answers (place c (field_of bs) p i) (place_inside p q i)

module _ (t : Fields) (right : Right t) (c : Chain) (p : ℕ) (own : IsProcess (n_of t) p) where
  listed : Listed c t p (met c t p)
  listed = met_listed t right c p own

  place_met : (i : ℕ) → place c t p i ≡ get_or (met c t p) i 0
  place_met i = place_steps c t p i ∙ follows_steps i listed.follows

  -- the places of the chain's arcs, and the others
  place_low : (i : ℕ) → i < length (met c t p) → 1 ≤ place c t p i
  place_low i h = rw (place_met i) (follows_low i listed.follows h)

  place_past : (i : ℕ) → length (met c t p) ≤ i → place c t p i ≡ 0
  place_past i h = place_met i ∙ get_or-eq_default (met c t p) 0 h

module _ (table : Bor (List ℕ)) (good : MeetsLayout table.now) (c : Chain) where
  abbrev t : Fields
  t = field_of table.now

  -- a walk along the chain, at arc k
  abbrev at : ℕ → ℕ → Walk
  at n k = record { table = table; chain = c; arc = k; number = n }

  steps_on_steps : (i n k : ℕ) → k ≤ m_of t → steps_on i (at n k) ≡ at n (steps c t k i)
  unfolding steps_on steps
  steps_on_steps zero n k high = refl
  steps_on_steps (suc i) n k high =
      ap (λ (j : ℕ). steps_on i (at n j)) (leads table.now good c k high) ∙ steps_on_steps i n (follow c t k) (follow_inside table.now good c k high)

  arcs_met_along : (f n k : ℕ) → k ≤ m_of t → arcs_met f (at n k) ≡ along c t f k
  unfolding arcs_met along follow
  arcs_met_along zero n k high = refl
  arcs_met_along (suc f) n zero high = refl
  arcs_met_along (suc f) n (suc k) high =
      ap {B = List ℕ} (λ ks. suc k ∷ ks)
      (ap (λ (j : ℕ). arcs_met f (at n j)) (leads table.now good c (suc k) high)
      ∙ arcs_met_along f n (next c (arc_at t (suc k))) (follow_inside table.now good c (suc k) high))

  module _ (p : ℕ) (own : IsProcess (n_of t) p) where
    opened_at : opened_walk table c p ≡ at 0 (first c t p)
    opened_at = ap (λ (o : Result ℕ Refusal). at (number_of o) (opened_arc o)) (opened_first table.now c p good own)

    mine : Listed c t p (met c t p)
    mine = met_listed t good.right c p own

    arcs_met_met : (f : ℕ) → m_of t ≤ f → arcs_met f (opened_walk table c p) ≡ met c t p
    arcs_met_met f enough =
        ap (arcs_met f) opened_at ∙ arcs_met_along f 0 (first c t p) (good.right.firsts c p own) ∙ follows_along f mine.follows (omega (arith, mine.short))

    -- after i steps it stands at the chain's place i
    at_place : (i : ℕ) → steps_on i (opened_walk table c p) ≡ at 0 (place c t p i)
    at_place i = ap (steps_on i) opened_at ∙ steps_on_steps i 0 (first c t p) (good.right.firsts c p own) ∙ ap (at 0) (sym (place_steps c t p i))

    gives_place : (i : ℕ) → gives (steps_on i (opened_walk table c p)) ≡ next_answer (place c t p (suc i))
    gives_place i = ap gives (at_place i) ∙ next_place table.now good c p own i

    met_whole : WholeWalk table c p (met c t p)
    met_whole =
        record {
          opened = (opened_P table c p).1 (good, own);
          stands = λ i. ap (λ (w : Walk). w.arc) (at_place i) ∙ place_met t good.right c p own i;
          goes_on =
              λ i h. gives_place i ∙ next_answer_arc (place c t p (suc i)) (place_low t good.right c p own (suc i) h)
              ∙ ap Some (place_met t good.right c p own (suc i));
          ends = λ i h. gives_place i ∙ next_answer_end (place c t p (suc i)) (place_past t good.right c p own (suc i) h);
          order = mine.follows;
          once = λ k a e. mine.counts k a ∙ bit_same (near c (arc_at t k)) p e;
          nothing_else = λ k h. (mine.arcs k h, mine.own k h);
        }

    -- "It meets each arc with from = p once and meets nothing else": and so does the walk
    pub whole_walk : (f : ℕ) → m_of t ≤ f → WholeWalk table c p (arcs_met f (opened_walk table c p))
    whole_walk f enough = rw (arcs_met_met f enough) met_whole
