-- Word 0 of an area is the version of its layout (docs/LAYOUT.md), which a host reads before it trusts a stored area.
--   layout_started    == an area that a start left has this layout
--   layout_accepted   == so has every well-formed area
--   layout_kept       == no list of calls changes the word, whatever words it is given
--   layout_other      == an area with another number there gets 21 from every call but a start, and keeps every word
-- Assumes nothing.
use Rattle.std.specs.Prelude.{ℕ, true, false, List, [], ◌∷◌, ◌≡◌, ℤ, pos, get_or, Err}
use Rattle.std.proofs.Math.Path.{refl}
use Rattle.std.proofs.Common.{sym, ◌∙◌, arith, eq-eqb}
use Rattle.base.specs.Choice.{choose}
use Rattle.base.specs.Checks.{Tested, passed, failed}
use Rattle.base.specs.ChoiceLaws.{tested}
use Rattle.tables.specs.Table.{Fields, field_of}
use Rattle.tables.specs.Waits.{waits_of}
use Rattle.machine.specs.Calls.{halted}
use Rattle.refusals.specs.Numbers.{numbered}
use Rattle.machine.specs.Lists.{Call, picking, running_on, running_shuffled, reporting, reading, in_turn}
use Rattle.checks.specs.Run.{Run, start_run}
use Rattle.checks.specs.Calls.{pick, run_on, run_shuffled}
use Rattle.areas.specs.Used.{check_place}
use Rattle.areas.specs.Area.{knot_check, stored, fields_in, run_in, keeping, area_right}
use Rattle.areas.specs.AreaLaws.{area_right_P}
use Rattle.areas.specs.StoredLaws.{stored_word}
use Rattle.areas.specs.WordLaws.{word_of_head}
use Rattle.starting.specs.StartCall.{start_number, start_area}
use Rattle.area_calls.specs.AreaCalls.{pick_answer, pick_area, run_on_answer, run_on_area, shuffled_answer, shuffled_area, report_answer, read_answer}
use Rattle.area_calls.specs.AreaCalls.{area_passed_by, area_passed}
use Rattle.area_calls.specs.CallLaws.{pick_21, run_on_21, shuffled_21, report_21, read_21}

layout_stored : (t : Fields) (r : Run) (w : List ℤ) → get_or (stored t r w) check_place (pos 0) ≡ knot_check
layout_stored t r w = stored_word t r w check_place (pos 0) (omega arith) ∙ word_of_head t r check_place (omega arith)

pub layout_started : (bs : List ℕ) (s ed : ℕ) (w : List ℤ) → start_number bs s ed w ≡ 0 → get_or (start_area bs s ed w) check_place (pos 0) ≡ knot_check
unfolding start_area
layout_started bs s ed w e =
    rw (eq-eqb (start_number bs s ed w) 0 e) (layout_stored (field_of bs) (start_run (waits_of (field_of bs)) s ed) w)

pub layout_accepted : (w : List ℤ) → area_right w ≡ true → get_or w check_place (pos 0) ≡ knot_check
layout_accepted w e =
    ((area_right_P w).0 e).words check_place (omega arith) ∙ word_of_head (fields_in w) (run_in w) check_place (omega arith)

-- a call leaves the area with another run in it, or as it was
call_kept : (w : List ℤ) (r : Run) → get_or (choose (area_right w) (keeping w r) w) check_place (pos 0) ≡ get_or w check_place (pos 0)
call_kept w r = at (tested (area_right w))
  where
    at : Tested (area_right w) → get_or (choose (area_right w) (keeping w r) w) check_place (pos 0) ≡ get_or w check_place (pos 0)
    at (passed e) = rw e (layout_stored (fields_in w) r w ∙ sym (layout_accepted w e))
    at (failed e) = rw e

pub layout_kept : (cs : List Call) (w : List ℤ) → get_or (area_passed cs w).left check_place (pos 0) ≡ get_or w check_place (pos 0)
unfolding in_turn
layout_kept [] w = refl
layout_kept (c ∷ cs) w = layout_kept cs (area_passed_by c w).left ∙ by c
  where
    by : (c : Call) → get_or (area_passed_by c w).left check_place (pos 0) ≡ get_or w check_place (pos 0)
    by (picking a b k) = unfold pick_area in call_kept w (pick (run_in w) a b k).run
    by (running_on k) = unfold run_on_area in call_kept w (run_on k (run_in w)).run
    by (running_shuffled k seed) = unfold shuffled_area in call_kept w (run_shuffled k seed (run_in w)).run
    by reporting = refl
    by (reading p) = refl

module _ (w : List ℤ) (other : get_or w check_place (pos 0) ≡ knot_check → ⊥) where
  not_right : area_right w ≡ false
  not_right = at (tested (area_right w))
    where
      at : Tested (area_right w) → area_right w ≡ false
      at (failed e) = e
      at (passed e) = absurd (other (layout_accepted w e))

  pub layout_other :
      ((a b k : ℕ) → (Err (numbered 21) ≡ pick_answer w a b k) × (w ≡ pick_area w a b k)) ×
      ((k : ℕ) → (halted 21 0 ≡ run_on_answer k w) × (w ≡ run_on_area k w)) ×
      ((k seed : ℕ) → (halted 21 0 ≡ shuffled_answer k seed w) × (w ≡ shuffled_area k seed w)) ×
      (Err (numbered 21) ≡ report_answer w) ×
      ((p : ℕ) → Err (numbered 21) ≡ read_answer w p)
  layout_other = (pick_21 w not_right, run_on_21 w not_right, shuffled_21 w not_right, report_21 w not_right, read_21 w not_right)
