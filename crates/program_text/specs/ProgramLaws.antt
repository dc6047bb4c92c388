-- What is known of the runs of a begun input, and that its check is over at the end.
--   program_begun, program_refused   == the text of a begun input, and of a refused one
--   begun, table_right, table_sound, start_process   == the start of a begun input is accepted, so that its table is right and its start a process
--   begun_right, begun_run   == its area is well formed, and holds the first run
--   fits              == whatever calls were made, the run can stand in an area
--   program_ran       == running on from the picks on makes all that is left of D, and answers over
--   program_own       == .. and the lines of the program's own deliveries are of these: none is refused, and the last leaves the run at the end
--   program_over      == "it runs on to the end": the run at the end of a begun input is over
--   program_ended     == .. and it is what 01 says of the end of a check, of the input's table, start process and edition
--   program_report    == .. so that the last lines are those of the wait graph, whatever the picks
-- Assumes nothing.
use Rattle.std.specs.Prelude.{ℕ, ◌+◌, ◌-◌, ◌≤◌, true, List, ◌∷◌, [], ◌++◌, ◌≡◌, refl, Ok, ℤ, pos}
use Rattle.std.proofs.Common.{ap, arith}
use borrow.Author.Tests.{eq-eqb, ne_eqb}
use Rattle.base.specs.Choice.{choose}
use Rattle.tables.specs.Layout.{Right}
use Rattle.tables.specs.Sound.{Sound}
use Rattle.tables.specs.Table.{field_of, n_of, m_of, IsProcess}
use Rattle.tables.specs.Waits.{Waits, waits_of}
use Rattle.tables.specs.WaitsLaws.{waits_of_sound}
use Rattle.machine.specs.declared.Ran.{Ran}
use Rattle.machine.specs.Lists.{Call, Passed, running_on, in_turn, passed_by}
use Rattle.machine.specs.Calls as MachineCalls
use Rattle.machine.specs.Calls.{fixed_order}
use Rattle.checks.specs.declared.Verdict.TheVariants.{Knot, Free}
use Rattle.checks.specs.declared.Mark.TheVariants.{Returned, Held}
use Rattle.checks.specs.Run.{Run, knot, over}
use Rattle.checks.specs.Calls.{run_on, report}
use Rattle.checks.specs.Reach.{in_knot, outsiders, lowest_outsider, all_wait, d_of}
use Rattle.checks.specs.Lists.{Ended, asked, passed}
use Rattle.areas.specs.Area.{run_in, area_right}
use Rattle.ending.specs.Ending.{ending}
use Rattle.ending.specs.EndingLaws.{ending_runs_out, ending_over}
use Rattle.ending.specs.SpreadEndLaws.{d_of_most}
use Rattle.lenses.specs.Storable.{Storable}
use Rattle.starting.specs.StartCall.{start_number}
use Rattle.beginning.specs.Starting.{Startable}
use Rattle.area_ending.specs.AreaEnding as AreaEnding
use Rattle.area_ending.specs.AreaEnding.{table, fits_last, area_run, area_ending}
use Rattle.inputs.specs.Input.{start_in, edition_in, table_in, begun_area}
use Rattle.inputs.specs.InputLaws.{begun_started}
use Rattle.lines.specs.Text.{refused_line, report_text}
use Rattle.program_text.specs.Program.{enough, number_in, first_run, pick_calls, picked_run, end_run, own_text, report_lines, check_text, program_text}
use Rattle.program_text.specs.Own.{OwnLines}
use Rattle.program_text.specs.OwnLaws.{own_lines}

-- a call behind a list
end_passed : (cs : List Call) (r : Run) → (passed (cs ++ (running_on knot.most ∷ [])) r).left ≡ end_run (passed cs r).left
unfolding in_turn
end_passed [] r = refl
end_passed (c ∷ cs) r = end_passed cs (passed_by knot fixed_order asked c r).left

module _ (bs : List ℕ) where
  pub program_refused : {r : ℕ} → number_in bs ≡ r → (r ≡ 0 → ⊥) → program_text bs ≡ refused_line r
  unfolding program_text
  program_refused {r} e d = rw (e, ne_eqb r 0 d)

  pub program_begun : number_in bs ≡ 0 → program_text bs ≡ check_text bs
  unfolding program_text
  program_begun e = rw (eq-eqb (number_in bs) 0 e)

module _ (bs : List ℕ) (e : number_in bs ≡ 0) where
  abbrev waits : Waits
  waits = waits_of (field_of (table_in bs))

  pub begun : start_number (table_in bs) (start_in bs) (edition_in bs) enough ≡ 0
  begun = (begun_started bs enough e).1

  pub table_right : Right (field_of (table_in bs))
  table_right = (table (table_in bs) (start_in bs) (edition_in bs) enough begun).right

  pub table_sound : Sound waits
  table_sound = waits_of_sound (field_of (table_in bs)) table_right

  started : Startable (table_in bs) (n_of (field_of (table_in bs))) (m_of (field_of (table_in bs))) (start_in bs) (edition_in bs) enough
  started = AreaEnding.begun (table_in bs) (start_in bs) (edition_in bs) enough begun

  pub start_process : IsProcess waits.n (start_in bs)
  unfolding waits_of
  start_process = started.start_is_in

  pub begun_right : {v : List ℤ} → v ≡ begun_area bs enough → area_right v ≡ true
  unfolding in_turn
  begun_right f = rw (f, (begun_started bs enough e).2) (area_ending (table_in bs) (start_in bs) (edition_in bs) enough begun []).right

  pub begun_run : {v : List ℤ} → v ≡ begun_area bs enough → run_in v ≡ first_run bs
  unfolding in_turn
  begun_run f =
      rw (f, (begun_started bs enough e).2)
      (ap (λ (p : Passed Run). p.left) (area_run (table_in bs) (start_in bs) (edition_in bs) enough begun []))

  -- whatever calls were made, the run can stand in an area
  pub fits : (cs : List Call) → Storable (field_of (table_in bs)) (passed cs (first_run bs)).left
  fits cs = fits_last (table_in bs) (start_in bs) (edition_in bs) enough begun cs

  -- ---- the end

  -- so many deliveries as a run counts at most are enough
  most_enough : d_of waits (start_in bs) ≤ (passed (pick_calls bs) (first_run bs)).made + knot.most
  most_enough = omega (arith, d_of_most waits (start_in bs) table_sound)

  pub program_ran : (run_on knot.most (picked_run bs)).answer ≡ Ok (Ran.Over (d_of waits (start_in bs) - (passed (pick_calls bs) (first_run bs)).made))
  program_ran = ending_runs_out waits table_sound (start_in bs) start_process (edition_in bs) started.edition (pick_calls bs) knot.most most_enough

  pub program_own : OwnLines 0 (d_of waits (start_in bs) - (passed (pick_calls bs) (first_run bs)).made) (picked_run bs) (end_run (picked_run bs))
      (own_text knot.most (picked_run bs))
  unfolding MachineCalls.run_on
  program_own =
      let formed = (fits (pick_calls bs)).formed in
      rw (end_run, formed) (own_lines knot.most 0 (d_of waits (start_in bs) - (passed (pick_calls bs) (first_run bs)).made) (picked_run bs) (rw formed at program_ran))

  pub program_over : over (end_run (picked_run bs)) ≡ true
  program_over = ending_over waits table_sound (start_in bs) start_process (edition_in bs) started.edition (pick_calls bs) knot.most most_enough

  pub program_ended : Ended waits (start_in bs) (edition_in bs) (end_run (picked_run bs))
  program_ended =
      let last = end_passed (pick_calls bs) (first_run bs) in
      let calls = pick_calls bs ++ (running_on knot.most ∷ []) in
      let p = ending waits table_sound (start_in bs) start_process (edition_in bs) started.edition calls in
      rw last at (p.ended (rw last program_over))

  pub program_report : report_lines (report (end_run (picked_run bs)))
      ≡ report_text (d_of waits (start_in bs)) (choose (in_knot waits (start_in bs) (edition_in bs)) Knot Free) (pos (outsiders waits (start_in bs)))
      (lowest_outsider waits (start_in bs)) (choose (all_wait waits (start_in bs)) Returned Held)
  program_report = ap report_lines program_ended.reports
