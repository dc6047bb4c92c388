-- `marks::Memory::unmark` meets its contract.
use Rattle.std.proofs.Common.{◌-◌, arith}
use Rattle.marks.proofs.Marking.{unmark_asks, strike_asks, unmark_asks_group, unmark_is, group_read, group_put, turns_marked}
use Rattle.marks.proofs.Memory.unmark.Goals as goal

pub count_down-requires-clause-counted : goal.count_down-requires-clause-counted
count_down-requires-clause-counted c =
    (unmark_asks c.self.inside.numbers c.args.a c.args.b c.requires.sender c.requires.receiver (rw c.self.view_is c.requires.marked_at)).1.1

pub strike-requires-clause-digit_taken : goal.strike-requires-clause-digit_taken
strike-requires-clause-digit_taken c =
    (strike_asks c.self.inside.numbers c.args.a c.args.b c.requires.sender c.requires.receiver (rw c.self.view_is c.requires.marked_at)
    c.count_down.ensures).1.1.1

pub overflow_sub-self : goal.overflow_sub-self
overflow_sub-self c =
    let u = unmark_asks_group c.self.inside.numbers c.args.a c.args.b c.requires.sender c.requires.receiver (rw c.self.view_is c.requires.marked_at)
    c.count_down.ensures c.strike.ensures in
    omega (arith, group_read c.strike.new.words c.args.b c.group_of.ensures c.group_at.ensures, u.1.1)

pub invariant_of-self : goal.invariant_of-self
invariant_of-self c =
    turns_marked c.self.invariant
    (unmark_is c.self.inside.numbers c.args.a c.args.b c.requires.sender c.requires.receiver (rw c.self.view_is c.requires.marked_at)
    c.count_down.ensures c.strike.ensures (group_put c.strike.new.words c.args.b c.group_of.ensures c.group_at.ensures (λ n. n - 1)))

pub returns : goal.returns
returns c =
    rw (← c.self.view_is)
    (unmark_is c.self.inside.numbers c.args.a c.args.b c.requires.sender c.requires.receiver (rw c.self.view_is c.requires.marked_at)
    c.count_down.ensures c.strike.ensures (group_put c.strike.new.words c.args.b c.group_of.ensures c.group_at.ensures (λ n. n - 1)))
