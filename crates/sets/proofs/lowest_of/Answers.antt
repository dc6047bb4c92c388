-- `sets::lowest_of` meets its contract.
use Rattle.sets.proofs.Words.{low_is, high_is}
use Rattle.sets.proofs.lowest_of.Goals as goal

pub returns-then-low-ne0-clause-is : goal.returns-then-low-ne0-clause-is
returns-then-low-ne0-clause-is c = low_is c.args.low c.args.high c.if-low-ne0.true

pub returns-clause-is : goal.returns-clause-is
returns-clause-is c = high_is c.args.low c.args.high c.if-low-ne0.false
