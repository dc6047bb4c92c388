-- Calls on the area of a table are calls on the run that it holds.
--   right, run        == the area that holds a run is well formed, and holds that run
--   call_stored       == one call: the run's own answer, and the run stored again
--   list_stored       == a list of calls: the same
--   fit_list          == a list of calls keeps a run within its area
-- Assumes nothing.
use Rattle.std.specs.Prelude.{◌≤◌, true, ◌≡◌, length, ℤ}
use mathlib.Core.List.{List, [], ◌∷◌}
use Rattle.std.proofs.Math.Path.{refl}
use Rattle.tables.specs.Table.{Fields}
use Rattle.checks.specs.Run.{Run, knot}
use Rattle.checks.specs.Calls.{pick, run_on, run_shuffled}
use Rattle.machine.specs.Lists.{Call, picking, running_on, running_shuffled, reporting, reading, in_turn, passed_by}
use Rattle.machine.specs.Calls.{fixed_order}
use Rattle.machine.specs.Calls as MachineCalls
use Rattle.checks.specs.AnswerLaws.{delivery_of_number, delivery_of_accepted}
use Rattle.checks.specs.Lists.{asked}
use Rattle.checks.specs.Lists
use Rattle.areas.specs.Area.{stored, fields_in, run_in, area_right, area_of}
use Rattle.areas.specs.StoredLaws.{stored_again}
use Rattle.areas.specs.ReadLaws.{fields_in_stored, run_in_stored}
use Rattle.areas.specs.AreaFacts.{RightTable}
use Rattle.areas.specs.AreaLaws.{area_right_stored}
use Rattle.lenses.specs.Storable.{Storable}
use Rattle.delivery.specs.StorableLaws.{storable_pick, storable_run_on, storable_shuffled}
use Rattle.area_calls.specs.AreaCalls.{pick_answer, pick_area, run_on_answer, run_on_area, shuffled_answer, shuffled_area, report_answer, read_answer}
use Rattle.area_calls.specs.AreaCalls.{area_passed_by, area_passed}

-- ---- a call on an area is the call on its run

module _ (t : Fields) (tb : RightTable t) (w : List ℤ) (long : area_of t ≤ length w) where
  pub right : (r : Run) → Storable t r → area_right (stored t r w) ≡ true
  right r f = area_right_stored t r w tb f.held f.formed long

  pub run : (r : Run) → Storable t r → run_in (stored t r w) ≡ r
  run r f = run_in_stored t r w tb.right tb.shut f.held f.formed

  keeps : (r q : Run) → stored (fields_in (stored t r w)) q (stored t r w) ≡ stored t q w
  keeps r q = rw (fields_in_stored t r w tb.shut) (stored_again t q r w)

  -- one call: the run's own answer, and the run stored again
  pub call_stored : (c : Call) (r : Run) → Storable t r → area_passed_by c (stored t r w)
      ≡ record {
        left = stored t (passed_by knot fixed_order asked c r).left w;
        made = (passed_by knot fixed_order asked c r).made;
        numbers = (passed_by knot fixed_order asked c r).numbers;
      }
  unfolding pick_area pick_answer run_on_area run_on_answer shuffled_area shuffled_answer report_answer read_answer
  call_stored (picking a b k) r f =
      let x = (MachineCalls.pick knot r a b k).answer in
      rw (right r f, run r f, keeps r (pick r a b k).run, delivery_of_number x, delivery_of_accepted x)
  call_stored (running_on k) r f = rw (right r f, run r f, keeps r (run_on k r).run)
  call_stored (running_shuffled k seed) r f = rw (right r f, run r f, keeps r (run_shuffled k seed r).run)
  call_stored reporting r f = rw (right r f, run r f)
  call_stored (reading p) r f = rw (right r f, run r f)

  pub fit_call : (c : Call) (r : Run) → Storable t r → Storable t (passed_by knot fixed_order asked c r).left
  fit_call (picking a b k) r f = storable_pick t r f a b k
  fit_call (running_on k) r f = storable_run_on t k r f
  fit_call (running_shuffled k seed) r f = storable_shuffled t k seed r f
  fit_call reporting r f = f
  fit_call (reading p) r f = f

  -- a list of calls: the lists' own answers, and the run stored again
  pub list_stored : (cs : List Call) (r : Run) → Storable t r → area_passed cs (stored t r w)
      ≡ record { left = stored t (Lists.passed cs r).left w; made = (Lists.passed cs r).made; numbers = (Lists.passed cs r).numbers }
  unfolding in_turn
  list_stored [] r f = refl
  list_stored (c ∷ cs) r f = rw (call_stored c r f, list_stored cs (passed_by knot fixed_order asked c r).left (fit_call c r f))

  pub fit_list : (cs : List Call) (r : Run) → Storable t r → Storable t (Lists.passed cs r).left
  unfolding in_turn
  fit_list [] r f = f
  fit_list (c ∷ cs) r f = fit_list cs (passed_by knot fixed_order asked c r).left (fit_call c r f)
