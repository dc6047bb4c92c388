-- `areas::squares::with_back` meets its contract, by whether the first waits for the second.
use Rattle.std.proofs.Common.{eq-eqb, ne_eqb}
use Rattle.areas.specs.Squares.{with_back}
use Rattle.areas.proofs.squares.with_back.Goals as goal

pub returns-then-cell-eq1 : goal.returns-then-cell-eq1
unfolding with_back
returns-then-cell-eq1 c = rw (eq-eqb _ _ c.if-cell-eq1.true)

pub returns : goal.returns
unfolding with_back
returns c = rw (ne_eqb _ _ c.if-cell-eq1.false)
