use Rattle.std.proofs.Common.{ℕ, ◌-◌, ◌≤◌, Bool}
use Rattle.sets.specs.Sets.{SetIs, Nth}
use Rattle.sets.specs.RankLaws.{Words}
use Rattle.sets.proofs.ranked_in.Given as goal

-- the words hold a set, and whoever has k of it below it has rank of S below it
abbrev pub Left : (ℕ → Bool) → ℕ → ℕ → ℕ → ℕ → Type 0
Left S rank low high k = (T : ℕ → Bool) × Words low high T × ((r : ℕ) → Nth T k r → Nth S rank r)

abbrev pub invariant-loop : goal.invariant-loop
invariant-loop l = (l.counter ≤ l.rank) × ((S : ℕ → Bool) → SetIs l.words l.j S → Left S l.rank l.low l.high (l.rank - l.counter))
