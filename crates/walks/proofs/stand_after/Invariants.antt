use Rattle.std.proofs.Common.{◌≡◌}
use Rattle.walks.specs.Walk.{steps_on}
use Rattle.walks.proofs.stand_after.Given as goal

-- the walk stands where so many steps lead from its opening
abbrev pub invariant-loop : goal.invariant-loop
invariant-loop l = l.w ≡ steps_on l.counter l.initial.w
