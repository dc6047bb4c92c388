-- The sets of those that each process waits for, as the tests of the records and of the links are lent them.
--   SetsAre S l       == the set of each process a in the array l holds exactly those b that pass S a b
--   Waiting t l       == the array holds for each process those that it waits for by the table t
-- Assumes nothing.
use Rattle.std.specs.Prelude.{ℕ, ◌≤◌, Bool, List, ◌≡◌, length}
use Rattle.tables.specs.Table.{Fields, most_processes}
use Rattle.tables.specs.Waits.{waits_of}
use Rattle.sets.specs.Sets.{sets_size, SetIs}

-- the sets of an array
pub record SetsAre (S : ℕ → ℕ → Bool) (l : List ℕ) : Type 0 where
  pub long : length l ≡ sets_size
  pub sets : (a : ℕ) → a ≤ most_processes → SetIs l a (S a)

-- the sets of a table
abbrev pub Waiting : Fields → List ℕ → Type 0
Waiting t l = SetsAre (waits_of t).waits l
