-- `lines::pieces::count_digits` meets its contract. The loop's invariant: the digits that were counted, and those of what is left but for its first,
-- are as many as those of the number. The measure is what is left.
use Rattle.std.proofs.Common.{arith}
use Rattle.lines.specs.TextLaws.{decimal_one_length, decimal_more_length, decimal_short}
use Rattle.lines.proofs.pieces.count_digits.Goals as goal

pub overflow_add-count : goal.overflow_add-count
overflow_add-count c = omega (arith, decimal_more_length c.loop-rest.rest c.loop-rest-test.true, decimal_short c.args.n c.ranges.n.fits)

pub loop-rest-preserved : goal.loop-rest-preserved
loop-rest-preserved c = omega (arith, decimal_more_length c.loop-rest.rest c.loop-rest-test.true)

pub returns : goal.returns
returns c = omega (arith, decimal_one_length c.loop-rest.rest (omega arith))
