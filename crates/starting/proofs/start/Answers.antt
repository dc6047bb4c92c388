-- `starting::start` meets its contract: each way out is a law of Answers, by what reading the table answered and the row that was met.
use Rattle.std.proofs.Common.{sym, ap, length, ltb, ◌∙◌, rules, ◌≡◌, Err}
use Rattle.refusals.specs.NumberLaws.{answered_ok}
use Rattle.starting.proofs.Answers.{start_read, start_few, start_met, start_row, startable, start_ready}
use Rattle.starting.proofs.start.Goals as goal

pub returns-in_err-sizes : goal.returns-in_err-sizes
returns-in_err-sizes c =
    let told : c.from_residual.result ≡ Err c.in_err-sizes.field-0.0 = search rules in
    let h = start_read _ _ _ _ c.read.ensures c.in_err-sizes.was in
    record { answer = told ∙ h.answer; area = h.area }

pub area_length-requires : goal.area_length-requires
area_length-requires c = let a = c.args in start_few a.table.now a.s a.edition a.area.now c.read.ensures c.in_ok-sizes.was

pub returns-in_err-row_met : goal.returns-in_err-row_met
returns-in_err-row_met c =
    let told : c.from_residual-in_err-row_met.result ≡ Err c.in_err-row_met.field-0.0 = search rules in
    let met = start_met _ _ _ _ c.read.ensures c.in_ok-sizes.was c.is_process-process.ensures c.is_edition-named.ensures
    (ap (ltb (length c.args.area.now)) c.area_length.ensures) in
    let h = start_row met (sym c.row_met.ensures ∙ c.in_err-row_met.was) in
    record { answer = told ∙ h.answer; area = h.area }

pub set_up-requires : goal.set_up-requires
set_up-requires c =
    let met = start_met _ _ _ _ c.read.ensures c.in_ok-sizes.was c.is_process-process.ensures c.is_edition-named.ensures
    (ap (ltb (length c.args.area.now)) c.area_length.ensures) in
    startable met (answered_ok _ _ (sym c.row_met.ensures ∙ c.in_ok-row_met.was)).0

pub returns : goal.returns
returns c =
    let met = start_met _ _ _ _ c.read.ensures c.in_ok-sizes.was c.is_process-process.ensures c.is_edition-named.ensures
    (ap (ltb (length c.args.area.now)) c.area_length.ensures) in
    let h = start_ready met (answered_ok _ _ (sym c.row_met.ensures ∙ c.in_ok-row_met.was)).0 _ c.set_up.ensures in
    record { answer = h.answer; area = h.area }
