-- What is remembered of the links that hold a message, whatever the order: which they are, how many to each receiver, and how many to each group of
-- 16 receivers. An array of numbers: the sets, two words each, then a count for each process and for 0, then one for each group.
--   memory_size             == how many numbers
--   count_at b              == where the array holds b's count: how many links to b hold a message
--   group_size, groups, group_at g, group_of b   == the receivers of a group, how many groups, where the array holds group g's count, and b's group
--   held_to held m          == how many pairs with a receiver of 1 to m pass the test held
--   Rows, Marks held l     == the array l holds which pairs pass the test held, from a sender to a receiver
-- Assumes nothing.
use Rattle.std.specs.Prelude.{ℕ, ◌+◌, ◌-◌, ◌*◌, ◌/◌, ◌<◌, Bool, not, List, ◌≡◌, eqb, length, get_or}
use Rattle.base.specs.Sums.{sum_to, count_to}
use Rattle.tables.specs.Table.{most_processes, IsProcess}
use Rattle.tables.specs.Pairs.{square_side}
use Rattle.sets.specs.Sets.{sets_size, SetIs}

-- receivers whose links with a message are counted together, and how many such groups there are
abbrev pub group_size : ℕ
group_size = 16

abbrev pub groups : ℕ
groups = 8

abbrev pub memory_size : ℕ
memory_size = 3 * square_side + groups

-- behind the sets: for a process, from whom a message waits for it; for 0, for whom one waits at all
abbrev pub count_at : ℕ → ℕ
count_at b = sets_size + b

abbrev pub group_at : ℕ → ℕ
group_at g = 3 * square_side + g

abbrev pub group_of : ℕ → ℕ
group_of b = (b - 1) / group_size

-- how many pairs with a receiver of 1 to m pass the test
unfoldable pub held_to : (ℕ → ℕ → Bool) → ℕ → ℕ
held_to held m = sum_to m (λ b. count_to most_processes (λ a. held a b))

-- the counts and sets
pub record Rows (held : ℕ → ℕ → Bool) (l : List ℕ) : Type 0 where
  pub long : length l ≡ memory_size
  pub counts : (b : ℕ) → IsProcess most_processes b → get_or l (count_at b) 0 ≡ count_to most_processes (λ a. held a b)
  pub receivers : SetIs l 0 (λ b. not (eqb (get_or l (count_at b) 0) 0))
  pub senders : (b : ℕ) → IsProcess most_processes b → SetIs l b (λ a. held a b)

-- with the counts of the groups
pub record Marks (held : ℕ → ℕ → Bool) (l : List ℕ) : Type 0 where
  pub rows : Rows held l
  pub grouped : (g : ℕ) → g < groups → held_to held (group_size * g) + get_or l (group_at g) 0 ≡ held_to held (group_size * (g + 1))
