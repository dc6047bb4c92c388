-- `marks::Memory::mark` meets its contract: the link was marked, or it is marked now.
use Rattle.std.proofs.Common.{◌+◌, arith}
use Rattle.marks.proofs.Marking.{mark_none, mark_asks, mark_asks_group, mark_is, group_read, group_put, turns_marked}
use Rattle.marks.proofs.Memory.mark.Goals as goal

pub returns-then-is_in : goal.returns-then-is_in
returns-then-is_in c =
    rw (← c.self.view_is) (mark_none c.self.inside.numbers c.args.a c.args.b c.requires.sender c.requires.receiver c.is_in.ensures c.if-is_in.true)

pub add-requires-clause-digit_free : goal.add-requires-clause-digit_free
add-requires-clause-digit_free c =
    (mark_asks c.self.inside.numbers c.args.a c.args.b c.requires.sender c.requires.receiver c.is_in.ensures c.if-is_in.false c.count_up.ensures
    c.self.invariant).1.1.1

pub overflow_add-self : goal.overflow_add-self
overflow_add-self c =
    let u = mark_asks_group c.self.inside.numbers c.args.a c.args.b c.requires.sender c.requires.receiver c.is_in.ensures c.if-is_in.false
    c.count_up.ensures c.add.ensures c.self.invariant in
    omega (arith, group_read c.add.new.words c.args.b c.group_of.ensures c.group_at.ensures, u.1.1)

pub invariant_of-self : goal.invariant_of-self
invariant_of-self c =
    turns_marked c.self.invariant
    (mark_is c.self.inside.numbers c.args.a c.args.b c.requires.sender c.requires.receiver c.is_in.ensures c.if-is_in.false c.count_up.ensures
    c.add.ensures (group_put c.add.new.words c.args.b c.group_of.ensures c.group_at.ensures (λ n. n + 1)))

pub returns : goal.returns
returns c =
    rw (← c.self.view_is)
    (mark_is c.self.inside.numbers c.args.a c.args.b c.requires.sender c.requires.receiver c.is_in.ensures c.if-is_in.false c.count_up.ensures
    c.add.ensures (group_put c.add.new.words c.args.b c.group_of.ensures c.group_at.ensures (λ n. n + 1)))
