use Rattle.std.proofs.Common.{◌+◌, ◌≡◌, length}
use Rattle.lines.specs.Text.{decimal}
use Rattle.lines.proofs.pieces.count_digits.Given as goal

abbrev pub invariant-loop-rest : goal.invariant-loop-rest
invariant-loop-rest l = l.count + length (decimal l.rest) ≡ length (decimal l.n) + 1

abbrev pub decreases-loop-rest : goal.decreases-loop-rest
decreases-loop-rest l = l.rest
