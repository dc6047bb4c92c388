-- `runs::shuffled::run_shuffled` meets its contract: 21 where the test fails, 37 for seed 0, and else the deliveries from the run in the area.
use Rattle.std.proofs.Common.{ap, ◌∙◌, ◌≡◌, rules, Err, eq-eqb, ne_eqb}
use Rattle.refusals.specs.declared.Refusal.{Refusal}
use Rattle.area_calls.specs.CallLaws.{shuffled_21, shuffled_37, shuffled_on}
use Rattle.area_calls.specs.TestedLaws.{wrong_area, wrong_named, right_ready}
use Rattle.runs.proofs.shuffled.run_shuffled.Goals as goal

pub returns-in_err-sizes : goal.returns-in_err-sizes
returns-in_err-sizes c =
    let told : c.from_residual.result ≡ Err (record { refusal = c.in_err-sizes.field-0.0; made = 0 }) = search rules in
    let w = c.args.area.now in
    let h = shuffled_21 w (wrong_area w _ c.test.ensures c.in_err-sizes.was) c.args.k c.args.seed in
    record {
      answer = told ∙ ap (λ (e : Refusal). Err (record { refusal = e; made = 0 })) (wrong_named w _ c.test.ensures c.in_err-sizes.was) ∙ h.0;
      area_after = h.1;
    }

pub returns-then-seed-eq0 : goal.returns-then-seed-eq0
returns-then-seed-eq0 c =
    let w = c.args.area.now in
    let h = shuffled_37 w (right_ready w _ c.test.ensures _ c.in_ok-sizes.was).right c.args.k c.args.seed (eq-eqb c.args.seed 0 c.if-seed-eq0.true) in
    record { answer = ap Err c.from.ensures ∙ h.0; area_after = h.1 }

pub run_in-requires : goal.run_in-requires
run_in-requires c = right_ready c.args.area.now _ c.test.ensures _ c.in_ok-sizes.was

pub returns : goal.returns
returns c =
    let w = c.args.area.now in
    let h = shuffled_on w (right_ready w _ c.test.ensures _ c.in_ok-sizes.was).right c.args.k c.args.seed (ne_eqb c.args.seed 0 c.if-seed-eq0.false) in
    record { answer = c.run_in.ensures.answer ∙ h.0; area_after = c.run_in.ensures.area_after ∙ h.1 }
