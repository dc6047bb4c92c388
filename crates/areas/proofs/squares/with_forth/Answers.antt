-- `areas::squares::with_forth` meets its contract: the cell has 16 bits, since links begin inside the largest area.
use Rattle.std.proofs.Common.{rules}
use Rattle.areas.specs.Squares.{with_forth}
use Rattle.areas.proofs.squares.with_forth.Goals as goal

pub returns : goal.returns
unfolding with_forth
returns c = search rules
