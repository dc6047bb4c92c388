-- `marks::count_up` meets its contract.
use Rattle.std.proofs.Common.{arith, get_or, ap, ℕ}
use Rattle.marks.specs.MarkLaws.{marks_few}
use Rattle.marks.proofs.Marking.{up_stays, up_turns, up_word}
use Rattle.marks.proofs.count_up.Goals as goal

pub overflow_add-numbers : goal.overflow_add-numbers
overflow_add-numbers c =
    let e = ap (λ (i : ℕ). get_or c.args.numbers.now i 0) c.count_at-at.ensures in
    omega (arith, e, marks_few c.requires.marked.1.rows c.args.b c.requires.receiver)

pub add-requires-clause-digit_free : goal.add-requires-clause-digit_free
add-requires-clause-digit_free c =
    up_word c.args.numbers.now c.args.b c.count_at-at.ensures c.requires.marked c.requires.receiver c.if-numbers-at-eq1.true

pub returns-then-numbers-at-eq1 : goal.returns-then-numbers-at-eq1
returns-then-numbers-at-eq1 c =
    up_turns c.args.numbers.now c.args.b c.count_at-at.ensures c.requires.marked c.requires.receiver c.if-numbers-at-eq1.true c.add.ensures

pub returns-else-numbers-at-eq1 : goal.returns-else-numbers-at-eq1
returns-else-numbers-at-eq1 c = up_stays c.args.numbers.now c.args.b c.count_at-at.ensures c.requires.marked c.requires.receiver c.if-numbers-at-eq1.false
