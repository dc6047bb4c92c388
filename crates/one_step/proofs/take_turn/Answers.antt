-- `one_step::take_turn` meets its contract: each rule gets what the one before it left, and what is lent in range keeps every sum within 32 bits.
use Rattle.std.proofs.Common.{arith, ap, ◌∙◌}
use Rattle.steps.specs.Step.{rule1, set_succeeding, set_preceding, rule3, rule4, turn}
use Rattle.steps.specs.StepLaws.{in_range_P}
use Rattle.one_step.proofs.Turning.{lent, rule1_num, rule1_second, rule1_ready, set_succeeding_ready, set_preceding_ready, acknowledgeable}
use Rattle.one_step.proofs.take_turn.Goals as goal

pub set_succeeding-requires : goal.set_succeeding-requires
set_succeeding-requires c =
    let x = c.args.process in
    let h = lent c.args.message c.args.out_degree c.args.in_degree x c.requires.lent_fits in
    record {
      degree_in_range = omega arith;
      num_in_range = rw (c.rule1.ensures, rule1_num c.args.sender x) (in_range_P x h.process).num;
      second_small = rw c.rule1.ensures (rule1_second c.args.sender x h.process);
    }

pub rule3-requires : goal.rule3-requires
rule3-requires c =
    let x = c.args.process in
    let h = lent c.args.message c.args.out_degree c.args.in_degree x c.requires.lent_fits in
    let r = set_succeeding_ready _ (rule1 c.args.sender x) (rule1_ready c.args.sender x h.process) in
    rw (c.set_succeeding.ensures, c.rule1.ensures) (record { addable = r.0; succeeding_flag = r.1.0; preceding_flag = r.1.1 })

pub set_preceding-requires : goal.set_preceding-requires
set_preceding-requires c =
    let x = c.args.process in
    let h = lent c.args.message c.args.out_degree c.args.in_degree x c.requires.lent_fits in
    record {
      degree_in_range = omega arith;
      num_in_range = rw (c.rule1-in-Pre.ensures, rule1_num c.args.sender x) (in_range_P x h.process).num;
    }

pub rule3-requires-in-Pre : goal.rule3-requires-in-Pre
rule3-requires-in-Pre c =
    let x = c.args.process in
    let h = lent c.args.message c.args.out_degree c.args.in_degree x c.requires.lent_fits in
    let r = set_preceding_ready _ (rule1 c.args.sender x) (rule1_ready c.args.sender x h.process) in
    rw (c.set_preceding.ensures, c.rule1-in-Pre.ensures) (record { addable = r.0; succeeding_flag = r.1.0; preceding_flag = r.1.1 })

pub acknowledged-requires : goal.acknowledged-requires
acknowledged-requires c =
    let x = c.args.process in
    let m = c.args.message in
    let h = lent m c.args.out_degree c.args.in_degree x c.requires.lent_fits in
    let a = acknowledgeable m c.in-Ack.counts x c.in-Ack.is h.process h.count c.requires.num_fits in
    record { counts_small = a.0; sums_small = a.1.0; awaits = a.1.1 }

pub returns-in-Suc : goal.returns-in-Suc
unfolding turn
returns-in-Suc c =
    rw c.in-Suc.is
    (c.rule4.ensures ∙ ap rule4 (c.rule3.ensures
    ∙ ap rule3 (c.set_succeeding.ensures ∙ ap (set_succeeding _) c.rule1.ensures)))

pub returns-in-Pre : goal.returns-in-Pre
unfolding turn
returns-in-Pre c =
    rw c.in-Pre.is
    (c.rule4-in-Pre.ensures ∙ ap rule4
    (c.rule3-in-Pre.ensures ∙ ap rule3 (c.set_preceding.ensures ∙ ap (set_preceding _) c.rule1-in-Pre.ensures)))

pub returns-in-Ack : goal.returns-in-Ack
unfolding turn
returns-in-Ack c = rw c.in-Ack.is (c.rule4-in-Ack.ensures ∙ ap rule4 c.acknowledged.ensures)
