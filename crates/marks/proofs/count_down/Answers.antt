-- `marks::count_down` meets its contract.
use Rattle.marks.proofs.Marking.{down_stays, down_turns, down_word}
use Rattle.marks.proofs.count_down.Goals as goal

pub strike-requires-clause-digit_taken : goal.strike-requires-clause-digit_taken
strike-requires-clause-digit_taken c =
    down_word c.args.numbers.now c.args.b c.count_at-at.ensures c.requires.marked c.requires.receiver c.requires.counted

pub returns-then-numbers-at-eq0 : goal.returns-then-numbers-at-eq0
returns-then-numbers-at-eq0 c =
    down_turns c.args.numbers.now c.args.b c.count_at-at.ensures c.requires.marked c.requires.receiver c.if-numbers-at-eq0.true c.strike.ensures

pub returns-else-numbers-at-eq0 : goal.returns-else-numbers-at-eq0
returns-else-numbers-at-eq0 c = down_stays c.args.numbers.now c.args.b c.count_at-at.ensures c.requires.marked c.requires.receiver c.if-numbers-at-eq0.false
