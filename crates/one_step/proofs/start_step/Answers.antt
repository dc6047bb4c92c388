-- `one_step::start_step` meets its contract: 22 where num does not suffice, else what settled says of the start's step.
use Rattle.std.proofs.Common.{◌∙◌, sym}
use Rattle.steps.specs.Step.{fitting, start_turn, start_stepped}
use Rattle.one_step.proofs.Turning.{settled_answer}
use Rattle.one_step.proofs.start_step.Goals as goal

pub returns-then-not-is_num_sufficient : goal.returns-then-not-is_num_sufficient
unfolding start_stepped fitting
returns-then-not-is_num_sufficient c = rw (sym c.is_num_sufficient.ensures ∙ c.if-not-is_num_sufficient.true)

pub returns : goal.returns
unfolding start_stepped
returns c =
    let a = c.args in
    settled_answer a.message a.process (start_turn a.message a.sender a.process) c.settled.ensures
    c.take_start_turn.ensures (sym c.is_num_sufficient.ensures ∙ c.if-not-is_num_sufficient.false)
