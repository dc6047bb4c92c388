-- The calls by the first thing that is met.
--   pick_21, run_on_21, shuffled_21, report_21, read_21   == an area that is not well formed
--   pick_25, pick_23, pick_on                 == a pick on a well-formed area: no link, over, or the delivery
--   run_on_fixed                               == the area that running on leaves
--   run_on_on                                  == running on, from its first turn: the shuffled order from state 0, which is the fixed one
--   shuffled_37, shuffled_on                  == running on with a seed (02, N13): seed 0; from its first turn
--   report_on, report_26, report_over         == a report on a well-formed area; before the end, and at the end
--   read_25, read_found                       == a record
--   passed_then                               == a list of calls after a list
--   passed_21                                 == no list changes an area that is not well formed
-- Assumes nothing.
use Rattle.std.specs.Prelude.{ℕ, true, false, List, [], ◌∷◌, ◌++◌, ◌≡◌, refl, Ok, Err}
use Rattle.refusals.specs.Numbers.{numbered}
use Rattle.std.proofs.Common.{sym, ap, ◌∙◌}
use lib.{Dec.eqb, IntN.ℤ}
use Rattle.machine.specs.Calls as MachineCalls
use Rattle.machine.specs.Calls.{RanOn, halted, fixed_order, shuffled_order, run_from}
use Rattle.machine.proofs.ChooserLaws.{shuffled_zero}
use Rattle.machine.specs.Lists.{Call, picking, running_on, running_shuffled, reporting, reading, in_turn}
use Rattle.tables.specs.Table.{is_process}
use Rattle.tables.specs.Waits.{neighbours}
use Rattle.steps.specs.declared.{Message.Message, Process.Process}
use Rattle.checks.specs.Run.{knot, over, well_formed}
use Rattle.checks.specs.Calls.{deliver, reported, report, read_record}
use Rattle.areas.specs.Area.{run_in, area_right, keeping}
use Rattle.areas.specs.AreaLaws.{stored_same}
use Rattle.lenses.specs.ReadyLaws.{right_storable}
use Rattle.area_calls.specs.AreaCalls.{pick_answer, pick_area, run_on_answer, run_on_area, shuffled_answer, shuffled_area}
use Rattle.area_calls.specs.AreaCalls.{report_answer, read_answer, area_passed_by, area_passed}

-- ---- 21

module _ (w : List ℤ) (e : area_right w ≡ false) where
  pub pick_21 : (a b k : ℕ) → (Err (numbered 21) ≡ pick_answer w a b k) × (w ≡ pick_area w a b k)
  unfolding pick_answer pick_area
  pick_21 a b k = (rw e, rw e)

  pub run_on_21 : (k : ℕ) → (halted 21 0 ≡ run_on_answer k w) × (w ≡ run_on_area k w)
  unfolding run_on_answer run_on_area
  run_on_21 k = (rw e, rw e)

  pub shuffled_21 : (k seed : ℕ) → (halted 21 0 ≡ shuffled_answer k seed w) × (w ≡ shuffled_area k seed w)
  unfolding shuffled_answer shuffled_area
  shuffled_21 k seed = (rw e, rw e)

  pub report_21 : Err (numbered 21) ≡ report_answer w
  unfolding report_answer
  report_21 = rw e

  pub read_21 : (p : ℕ) → Err (numbered 21) ≡ read_answer w p
  unfolding read_answer
  read_21 p = rw e

-- ---- a well-formed area

module _ (w : List ℤ) (e : area_right w ≡ true) where
  formed : well_formed (run_in w) ≡ true
  formed = (right_storable w e).formed

  pub same : w ≡ keeping w (run_in w)
  same = sym (stored_same w e)

  pub pick_25 : (a b k : ℕ) → neighbours (run_in w).waits a b ≡ false → (Err (numbered 25) ≡ pick_answer w a b k) × (w ≡ pick_area w a b k)
  unfolding pick_answer pick_area MachineCalls.pick
  pick_25 a b k n = (rw (e, formed, n), rw (e, formed, n) same)

  pub pick_23 : (a b k : ℕ) → neighbours (run_in w).waits a b ≡ true → over (run_in w) ≡ true →
      (Err (numbered 23) ≡ pick_answer w a b k) × (w ≡ pick_area w a b k)
  unfolding pick_answer pick_area MachineCalls.pick
  pick_23 a b k n o = (rw (e, formed, n, o), rw (e, formed, n, o) same)

  pub pick_on : (a b k : ℕ) → neighbours (run_in w).waits a b ≡ true → over (run_in w) ≡ false →
      ((deliver (run_in w) a b k ((run_in w).link a b)).answer ≡ pick_answer w a b k) ×
      (keeping w (deliver (run_in w) a b k ((run_in w).link a b)).run ≡ pick_area w a b k)
  unfolding pick_answer pick_area MachineCalls.pick
  pick_on a b k n o = (rw (e, formed, n, o), rw (e, formed, n, o))

  pub run_on_fixed : (k : ℕ) → keeping w (run_from knot fixed_order k 0 0 (run_in w)).run ≡ run_on_area k w
  unfolding run_on_area MachineCalls.run_on
  run_on_fixed k = rw (e, formed)

  pub run_on_on : (k : ℕ) →
      ((run_from knot shuffled_order k 0 0 (run_in w)).answer ≡ run_on_answer k w) ×
      (keeping w (run_from knot shuffled_order k 0 0 (run_in w)).run ≡ run_on_area k w)
  unfolding run_on_answer run_on_area MachineCalls.run_on
  run_on_on k =
      let z = shuffled_zero knot k 0 (run_in w) in
      (rw (e, formed) (ap (λ (o : RanOn Process Message). o.answer) z), rw (e, formed) (ap (λ (o : RanOn Process Message). keeping w o.run) z))

  -- "It refuses seed 0 with 37, after 21." (02, N13)
  pub shuffled_37 : (k seed : ℕ) → eqb seed 0 ≡ true → (halted 37 0 ≡ shuffled_answer k seed w) × (w ≡ shuffled_area k seed w)
  unfolding shuffled_answer shuffled_area MachineCalls.run_shuffled
  shuffled_37 k seed z = (rw (e, formed, z), rw (e, formed, z) same)

  pub shuffled_on : (k seed : ℕ) → eqb seed 0 ≡ false →
      ((run_from knot shuffled_order k 0 seed (run_in w)).answer ≡ shuffled_answer k seed w) ×
      (keeping w (run_from knot shuffled_order k 0 seed (run_in w)).run ≡ shuffled_area k seed w)
  unfolding shuffled_answer shuffled_area MachineCalls.run_shuffled
  shuffled_on k seed z = (rw (e, formed, z), rw (e, formed, z))

  pub report_26 : over (run_in w) ≡ false → Err (numbered 26) ≡ report_answer w
  unfolding report_answer report
  report_26 o = rw (e, formed, o)

  pub report_on : report_answer w ≡ report (run_in w)
  unfolding report_answer
  report_on = rw e

  pub report_over : over (run_in w) ≡ true → Ok (reported (run_in w)) ≡ report_answer w
  unfolding report_answer report
  report_over o = rw (e, formed, o)

  pub read_25 : (p : ℕ) → is_process (run_in w).waits.n p ≡ false → Err (numbered 25) ≡ read_answer w p
  unfolding read_answer read_record
  read_25 p o = rw (e, formed, o)

  pub read_found : (p : ℕ) → is_process (run_in w).waits.n p ≡ true → Ok ((run_in w).process p) ≡ read_answer w p
  unfolding read_answer read_record
  read_found p o = rw (e, formed, o)

-- ---- lists

-- a list after a list
pub passed_then : (cs ds : List Call) (w : List ℤ) → (area_passed (cs ++ ds) w).left ≡ (area_passed ds (area_passed cs w).left).left
unfolding in_turn
passed_then [] ds w = refl
passed_then (c ∷ cs) ds w = passed_then cs ds (area_passed_by c w).left

-- no call changes an area that is not well formed
pub passed_21 : (w : List ℤ) → area_right w ≡ false → (cs : List Call) → (area_passed cs w).left ≡ w
unfolding in_turn
passed_21 w e [] = refl
passed_21 w e (c ∷ cs) = ap (λ (v : List ℤ). (area_passed cs v).left) (stays c) ∙ passed_21 w e cs
  where
    stays : (c : Call) → (area_passed_by c w).left ≡ w
    stays (picking a b k) = sym (pick_21 w e a b k).1
    stays (running_on k) = sym (run_on_21 w e k).1
    stays (running_shuffled k seed) = sym (shuffled_21 w e k seed).1
    stays reporting = refl
    stays (reading p) = refl
