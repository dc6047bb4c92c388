-- `one_step::other_step` meets its contract: 22 where num does not suffice, else what settled says of the turn.
use Rattle.std.proofs.Common.{◌∙◌, sym}
use Rattle.one_step.proofs.Turning.{stepped_short, stepped_settled}
use Rattle.one_step.proofs.other_step.Goals as goal

pub returns-then-not-is_num_sufficient : goal.returns-then-not-is_num_sufficient
returns-then-not-is_num_sufficient c =
    let a = c.args in
    stepped_short a.message a.out_degree a.in_degree a.sender a.process c.requires.lent_fits c.requires.sender_is_process
    (sym c.is_num_sufficient.ensures ∙ c.if-not-is_num_sufficient.true)

pub returns : goal.returns
returns c =
    let a = c.args in
    stepped_settled a.message a.out_degree a.in_degree a.sender a.process c.requires.lent_fits c.requires.sender_is_process c.settled.ensures
    c.take_turn.ensures (sym c.is_num_sufficient.ensures ∙ c.if-not-is_num_sufficient.false)
