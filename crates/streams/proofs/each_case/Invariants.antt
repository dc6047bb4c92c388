-- The step may be called again, and however the steps that are still to come end, so end all of them. Fewer numbers are left at each turn.
use Rattle.std.proofs.Common.{◌-◌, ◌^◌}
use Rattle.streams.proofs.Taken.{Leads}
use Rattle.streams.proofs.each_case.Given as goal

abbrev pub invariant-steps : goal.invariant-steps
invariant-steps g l = goal.F-IsAlwaysCallable g l.step × Leads (goal.F-step g) l.fn.step l.step l.k

abbrev pub decreases-steps : goal.decreases-steps
decreases-steps g l = 2 ^ 64 - l.k
