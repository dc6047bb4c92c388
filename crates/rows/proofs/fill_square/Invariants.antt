use Rattle.std.proofs.Common.{◌+◌, ◌-◌, ◌≤◌}
use Rattle.areas.specs.Area.{fields_in}
use Rattle.rows.proofs.Squaring.{Held}
use Rattle.rows.proofs.fill_square.Given as goal

abbrev pub invariant-loop-k : goal.invariant-loop-k
invariant-loop-k l = (1 ≤ l.k) × (l.k ≤ l.k-end + 1) × Held (fields_in l.area.words.now) (l.k - 1) (l.k - 1) l.square
