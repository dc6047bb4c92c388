-- What follows from demand 3 for the calls on lent words.
--   call_keeps        == a call that makes no delivery leaves every word: so does every refused call, whatever its number, but for a running
--                        on that was refused after it had made some
--   pick_keeps        == a refused pick leaves every word, whatever its number
--   area_takes        == after every list that is not over: the pick of every message that waits, wherever it stands, answers with it
--   area_reports      == after every list that is over: what the report of the words that the list left answers
--   area_runs_out, area_over   == after every list: running on with as many deliveries as are left ends over, with their number
--   area_shuffled     == .. with a seed that is not 0 it answers the same (02, N13)
--   area_runs_out_most, area_over_most   == .. as 2,048 do from wherever a list has come to
-- Assumes nothing.
use Rattle.std.specs.Prelude.{ℕ, ◌+◌, ◌-◌, ◌≤◌, true, false, List, ◌≡◌, refl, ℤ, pos, Ok, Err}
use Rattle.refusals.specs.declared.Refusal.{Refusal}
use Rattle.std.proofs.Math.Path.{sym, ap}
use Rattle.std.proofs.Common.{◌∙◌, arith}
use Rattle.base.specs.Choice.{choose}
use Rattle.base.specs.ChoiceLaws.{tested}
use Rattle.base.specs.Checks.{Tested, passed, failed}
use Rattle.tables.specs.Table.{field_of, IsProcess}
use Rattle.tables.specs.Waits.{Waits, waits_of}
use Rattle.tables.specs.Sound.{Sound}
use Rattle.tables.specs.WaitsLaws.{waits_of_sound}
use Rattle.machine.specs.declared.Ran.{Ran}
use Rattle.machine.specs.Calls.{cut, at_place, fixed_order}
use Rattle.machine.specs.Calls as MachineCalls
use Rattle.machine.specs.Lists.{Call, picking, running_on, running_shuffled, reporting, reading, Passed, Taken}
use Rattle.machine.proofs.PlaceLaws.{cut_placed}
use Rattle.machine.specs.Made.{Made, none}
use Rattle.machine.proofs.MadeLaws.{pick_made, run_on_made, run_shuffled_made}
use Rattle.machine.proofs.ChooserLaws.{fixed_order_finds}
use Rattle.steps.specs.declared.Message.{Message}
use Rattle.checks.specs.declared.Verdict.TheVariants.{Knot, Free}
use Rattle.checks.specs.declared.Mark.TheVariants.{Returned, Held}
use Rattle.checks.specs.Run.{Run, IsEdition, knot, over, start_run}
use Rattle.checks.specs.Calls.{pick, run_on, run_shuffled, delivery_made}
use Rattle.checks.specs.AnswerLaws.{delivery_of_accepted}
use Rattle.checks.specs.Reach.{in_knot, outsiders, lowest_outsider, all_wait, d_of}
use Rattle.checks.specs.Lists
use Rattle.ending.specs.SpreadEndLaws.{d_of_most}
use Rattle.ending.specs.EndingLaws.{ending_runs_out, ending_over}
use Rattle.ending.specs.ShuffledLaws.{ending_shuffled}
use Rattle.areas.specs.Area.{keeping, run_in, area_right}
use Rattle.lenses.specs.ReadyLaws.{right_storable}
use Rattle.starting.specs.StartCall.{start_number, start_area}
use Rattle.area_calls.specs.AreaCalls.{pick_answer, pick_area, run_on_answer, run_on_area, shuffled_answer, shuffled_area, report_answer}
use Rattle.area_calls.specs.AreaCalls.{area_passed_by, area_passed, as_run}
use Rattle.area_ending.specs.AreaEnding.{begun, table, fits_last, list_left, area_run, area_ending}
use Rattle.area_ending.specs.ListLaws.{run, call_stored, fit_call}
use Rattle.area_calls.specs.CallLaws.{same, report_on}

-- ---- refused calls

-- no delivery, the same run
none_made : {r q : Run} {k : ℕ} → Made knot r k q → k ≡ 0 → q ≡ r
none_made none e = refl
none_made (Made.more d a b pa pb m rest l ok) e = absurd (omega arith)

module _ (w : List ℤ) (e : area_right w ≡ true) where
  kept : (q : Run) → q ≡ run_in w → keeping w q ≡ w
  kept q f = rw f (sym (same w e))

-- a call that makes no delivery leaves every word
pub call_keeps : (c : Call) (w : List ℤ) → (area_passed_by c w).made ≡ 0 → (area_passed_by c w).left ≡ w
unfolding pick_area pick_answer run_on_area run_on_answer shuffled_area shuffled_answer
call_keeps c w = at c (tested (area_right w))
  where
    at : (c : Call) → Tested (area_right w) → (area_passed_by c w).made ≡ 0 → (area_passed_by c w).left ≡ w
    at (picking a b k) (failed e) z = rw e
    at (picking a b k) (passed e) z =
        let m = pick_made knot (run_in w) (right_storable w e).sound a b k in
        let x = (MachineCalls.pick knot (run_in w) a b k).answer in
        rw e (kept w e (pick (run_in w) a b k).run (none_made m (sym (delivery_of_accepted x) ∙ (rw e at z))))
    at (running_on k) (failed e) z = rw e
    at (running_on k) (passed e) z =
        rw e (kept w e (run_on k (run_in w)).run (none_made (run_on_made knot fixed_order fixed_order_finds k 0 (run_in w)) (rw e at z)))
    at (running_shuffled k seed) (failed e) z = rw e
    at (running_shuffled k seed) (passed e) z =
        rw e (kept w e (run_shuffled k seed (run_in w)).run (none_made (run_shuffled_made knot k seed (run_in w)) (rw e at z)))
    at reporting _ z = refl
    at (reading p) _ z = refl

pub pick_keeps : (w : List ℤ) (a b k : ℕ) (e : Refusal) → pick_answer w a b k ≡ Err e → pick_area w a b k ≡ w
pick_keeps w a b k n e = call_keeps (picking a b k) w (ap delivery_made e)

-- ---- after every list

module _ (bs : List ℕ) (s ed : ℕ) (w : List ℤ) (e : start_number bs s ed w ≡ 0) (cs : List Call) where
  abbrev waits : Waits
  waits = waits_of (field_of bs)

  abbrev list : Passed (List ℤ)
  list = area_passed cs (start_area bs s ed w)

  -- the report of the words that the list left, if all D deliveries are made: one and the same for every order
  pub area_reports : list.made ≡ d_of waits s → report_answer list.left
      ≡ Ok
      (record {
        deliveries = d_of waits s;
        verdict = choose (in_knot waits s ed) Knot Free;
        outside = pos (outsiders waits s);
        escape = lowest_outsider waits s;
        mark = choose (all_wait waits s) Returned Held;
      })
  area_reports z =
      let p = area_ending bs s ed w e cs in
      report_on list.left p.right ∙ (p.promise.ended (p.promise.over_at_d.1 z)).reports

  -- the pick of every message that waits, on any link and at any place of it, answers with that message (02, N5)
  pub area_takes : over (run_in list.left) ≡ false → (a b k : ℕ) → IsProcess waits.n a → IsProcess waits.n b → {m : Message} {rest : List Message} →
      at_place k ((run_in list.left).link a b) ≡ cut m rest → pick_answer list.left a b k ≡ Ok m
  unfolding pick_answer
  area_takes o a b k pa pb {m} {rest} c =
      let p = area_ending bs s ed w e cs in
      let h = cut_placed k ((run_in list.left).link a b) c in
      let t : Taken knot (run_in list.left) a b k = (p.promise.goes_on o).each a b k pa pb h.1.0 h.1.1 in
      let two : cut m rest ≡ cut t.message t.rest = sym c ∙ t.waits in
      let same : t.message ≡ m = cc in
      rw (p.right, t.accepted) (ap Ok same)

  sound : Sound waits
  sound = waits_of_sound (field_of bs) (table bs s ed w e).right

  process : IsProcess waits.n s
  unfolding waits_of
  process = (begun bs s ed w e).start_is_in

  named : IsEdition ed
  named = (begun bs s ed w e).edition

  is : as_run list ≡ Lists.passed cs (start_run waits s ed)
  is = area_run bs s ed w e cs

  made : list.made ≡ (Lists.passed cs (start_run waits s ed)).made
  made = ap (λ (p : Passed Run). p.made) is

  module _ (k : ℕ) (enough : d_of waits s ≤ list.made + k) where
    -- running on, if no more deliveries are left than it may make: it says over, with their number
    pub area_runs_out : run_on_answer k list.left ≡ Ok (Ran.Over (d_of waits s - list.made))
    unfolding run_on_answer
    area_runs_out =
        rw (area_ending bs s ed w e cs).right
        (ap (λ (p : Passed Run). (run_on k p.left).answer) is ∙ ending_runs_out waits sound s process ed named cs k (omega (arith, made)) ∙
        ap (λ (m : ℕ). Ok (Ran.Over (d_of waits s - m))) (sym made))

    -- .. and the run that it leaves is over
    pub area_over : over (run_in (run_on_area k list.left)) ≡ true
    area_over =
        let t = field_of bs in
        let tb = table bs s ed w e in
        let long = (begun bs s ed w e).long in
        let on = running_on k in
        let r = (Lists.passed cs (start_run waits s ed)).left in
        let f = fits_last bs s ed w e cs in
        let call = ap (λ (p : Passed (List ℤ)). p.left) (call_stored t tb w long on r f) in
        rw (list_left bs s ed w e cs, call, run t tb w long (run_on k r).run (fit_call t tb w long on r f))
        (ending_over waits sound s process ed named cs k (omega (arith, made)))

  -- "Such a run ends as any other." (02, N13): whatever the seed that is not 0, it answers what running on answers in the fixed order
  pub area_shuffled : (k seed : ℕ) → 1 ≤ seed → shuffled_answer k seed list.left ≡ run_on_answer k list.left
  unfolding shuffled_answer run_on_answer
  area_shuffled k seed u =
      let r : Passed Run = Lists.passed cs (start_run waits s ed) in
      let left : run_in list.left ≡ r.left = ap (λ (p : Passed Run). p.left) is in
      rw ((area_ending bs s ed w e cs).right, left) (ending_shuffled waits sound s process ed named cs k seed u)

  -- "accepted deliveries, 0 to 2048": so many suffice from wherever a list has come to
  most_enough : d_of waits s ≤ list.made + knot.most
  most_enough = omega (arith, d_of_most waits s sound)

  pub area_runs_out_most : run_on_answer knot.most list.left ≡ Ok (Ran.Over (d_of waits s - list.made))
  area_runs_out_most = area_runs_out knot.most most_enough

  pub area_over_most : over (run_in (run_on_area knot.most list.left)) ≡ true
  area_over_most = area_over knot.most most_enough
