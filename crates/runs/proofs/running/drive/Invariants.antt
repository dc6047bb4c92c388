use Rattle.std.proofs.Common.{◌-◌}
use Rattle.areas.specs.Area.{run_in}
use Rattle.machine.specs.Calls.{shuffled_order}
use Rattle.remembering.specs.Memory.{Remembers}
use Rattle.runs.proofs.Turns.{Turn}
use Rattle.runs.proofs.running.drive.Given as goal

abbrev pub invariant-loop-sizes : goal.invariant-loop-sizes
invariant-loop-sizes l = Turn shuffled_order l.seed l.initial.area l.k l.area l.made l.state × Remembers (run_in l.area) l.memory

abbrev pub decreases-loop-sizes : goal.decreases-loop-sizes
decreases-loop-sizes l = l.k - l.made
