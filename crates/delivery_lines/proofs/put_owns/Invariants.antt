use Rattle.std.proofs.Common.{◌-◌}
use Rattle.checks.specs.Run.{knot}
use Rattle.areas.specs.Area.{run_in}
use Rattle.machine.specs.Calls.{fixed_order}
use Rattle.remembering.specs.Memory.{Remembers}
use Rattle.runs.proofs.Turns.{Turn}
use Rattle.program_text.specs.Program.{own_text}
use Rattle.delivery_lines.proofs.Partly.{Partly}
use Rattle.delivery_lines.proofs.put_owns.Given as goal

abbrev pub invariant-loop-turn : goal.invariant-loop-turn
invariant-loop-turn l =
    Turn fixed_order 0 l.initial.area knot.most l.area l.turn 0 × Remembers (run_in l.area) l.memory
    × Partly (own_text knot.most (run_in l.initial.area)) (own_text (knot.most - l.turn) (run_in l.area)) l.initial.page l.page
