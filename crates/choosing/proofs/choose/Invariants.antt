use Rattle.std.proofs.Common.{ℕ, ◌+◌, ◌-◌, ◌≤◌, ◌≡◌, None}
use Rattle.checks.specs.Run.{Run}
use Rattle.machine.specs.Calls.{waiting}
use Rattle.areas.specs.Area.{run_in}
use Rattle.marks.specs.Marks.{held_to}
use Rattle.choosing.proofs.choose.Given as goal

-- the links to the receivers before b, and left more, are the place
abbrev pub So : Run → ℕ → ℕ → ℕ → Type 0
So r place b left = left + held_to (λ x y. waiting (r.link x y)) (b - 1) ≡ place

abbrev pub invariant-loop-from : goal.invariant-loop-from
invariant-loop-from l = (l.from ≡ l.first) × (l.found ≡ None)

abbrev pub invariant-scan : goal.invariant-scan
invariant-scan l = (1 ≤ l.to) × (l.found ≡ None) × So (run_in l.area.words.now) l.place l.to l.left
