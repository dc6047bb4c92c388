use Rattle.std.proofs.Common.{ℕ, ◌+◌, ◌*◌, ◌≤◌, Bool, ◌≡◌}
use Rattle.marks.specs.Marks.{group_size, groups, held_to, Marks}
use Rattle.marks.proofs.Memory.begin_at.Given as goal

-- the links of the groups that are passed, and those left, are the place
abbrev pub invariant-loop-count : goal.invariant-loop-count
invariant-loop-count l =
    (l.count-index ≤ groups) × (l.receiver ≡ group_size * l.count-index + 1)
    × ((mark : ℕ → ℕ → Bool) → Marks mark l.self → l.left + held_to mark (group_size * l.count-index) ≡ l.place)
