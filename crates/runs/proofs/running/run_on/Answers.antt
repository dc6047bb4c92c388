-- `runs::running::run_on` meets its contract: 21 where the test fails, and else the deliveries from the run in the area.
use Rattle.std.proofs.Common.{ap, ◌∙◌, ◌≡◌, rules, Err}
use Rattle.refusals.specs.declared.Refusal.{Refusal}
use Rattle.area_calls.specs.CallLaws.{run_on_21, run_on_on}
use Rattle.area_calls.specs.TestedLaws.{wrong_area, wrong_named, right_ready}
use Rattle.runs.proofs.running.run_on.Goals as goal

pub returns-in_err-sizes : goal.returns-in_err-sizes
returns-in_err-sizes c =
    let told : c.from_residual.result ≡ Err (record { refusal = c.in_err-sizes.field-0.0; made = 0 }) = search rules in
    let w = c.args.area.now in
    let h = run_on_21 w (wrong_area w _ c.test.ensures c.in_err-sizes.was) c.args.k in
    record {
      answer = told ∙ ap (λ (e : Refusal). Err (record { refusal = e; made = 0 })) (wrong_named w _ c.test.ensures c.in_err-sizes.was) ∙ h.0;
      area_after = h.1;
    }

pub run_in-requires : goal.run_in-requires
run_in-requires c = right_ready c.args.area.now _ c.test.ensures _ c.in_ok-sizes.was

pub returns : goal.returns
returns c =
    let h = run_on_on c.args.area.now (right_ready c.args.area.now _ c.test.ensures _ c.in_ok-sizes.was).right c.args.k in
    record { answer = c.run_in.ensures.answer ∙ h.0; area_after = c.run_in.ensures.area_after ∙ h.1 }
