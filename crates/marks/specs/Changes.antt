-- How the code reads and changes the array of what is remembered.
--   Marked l, MarkedAt l a b   == the array l holds some marks; and that of the link from a to b
--   Turns l f k                == whatever marks the array l holds, the array k holds those that f makes of them
--   turned held a b v          == a test of pairs that gives v at one place
--   Begins l k b left          == the links to the receivers before b, and left more, are k
--   Held l r, Points l s r     == r is how many links hold a message; and the place that the state s points to among them (02, N13)
--   group_count, put_group       == the count of b's group, and put anew
--   count_of l b, put_count      == b's count, and put anew
--   busy l b                   == b's count is not 0
--   counted_up, counted_down     == the array with one link more, and one link less, that holds a message for b
-- Assumes nothing.
use Rattle.std.specs.Prelude.{ℕ, ◌+◌, ◌-◌, ◌%◌, ◌≤◌, Bool, true, not, ◌&&◌, List, ◌≡◌, eqb, get_or, set}
use Rattle.base.specs.Choice.{choose}
use Rattle.tables.specs.Table.{most_processes}
use Rattle.sets.specs.Sets.{added_to, struck_from}
use Rattle.marks.specs.Marks.{count_at, group_at, group_of, held_to, Marks}

abbrev pub Marked : List ℕ → Type 0
Marked l = (held : ℕ → ℕ → Bool) × Marks held l

-- the array l holds some marks, and that of the link from a to b
abbrev pub MarkedAt : List ℕ → ℕ → ℕ → Type 0
MarkedAt l a b = (held : ℕ → ℕ → Bool) × Marks held l × (held a b ≡ true)

abbrev pub Turns : List ℕ → ((ℕ → ℕ → Bool) → ℕ → ℕ → Bool) → List ℕ → Type 0
Turns l f k = (held : ℕ → ℕ → Bool) → Marks held l → Marks (f held) k

abbrev pub turned : (ℕ → ℕ → Bool) → ℕ → ℕ → Bool → ℕ → ℕ → Bool
turned held a b v x y = choose (eqb x a && eqb y b) v (held x y)

-- the links to the receivers before b, and so many more, are k
abbrev pub Begins : List ℕ → ℕ → ℕ → ℕ → Type 0
Begins l k b left = (held : ℕ → ℕ → Bool) → Marks held l → (1 ≤ b) × (left + held_to held (b - 1) ≡ k)

-- r is how many pairs are marked; and where a state points to among them
abbrev pub Held : List ℕ → ℕ → Type 0
Held l r = (held : ℕ → ℕ → Bool) → Marks held l → r ≡ held_to held most_processes

abbrev pub Points : List ℕ → ℕ → ℕ → Type 0
Points l s r = (held : ℕ → ℕ → Bool) → Marks held l → 1 ≤ held_to held most_processes → r ≡ s % held_to held most_processes

-- a group's count, and put anew
abbrev pub group_count : List ℕ → ℕ → ℕ
group_count l b = get_or l (group_at (group_of b)) 0

abbrev pub put_group : List ℕ → ℕ → ℕ → List ℕ
put_group l b v = set l (group_at (group_of b)) v

abbrev pub count_of : List ℕ → ℕ → ℕ
count_of l b = get_or l (count_at b) 0

abbrev pub busy : List ℕ → ℕ → Bool
busy l b = not (eqb (count_of l b) 0)

-- b's count put anew
abbrev pub put_count : List ℕ → ℕ → ℕ → List ℕ
put_count l b v = set l (count_at b) v

-- the set 0 has one process more only where nothing waited for b, and one less only where nothing waits for b any more
unfoldable pub counted_up : List ℕ → ℕ → List ℕ
counted_up l b = choose (eqb (count_of l b) 0) (added_to (put_count l b (count_of l b + 1)) 0 b) (put_count l b (count_of l b + 1))

unfoldable pub counted_down : List ℕ → ℕ → List ℕ
counted_down l b = choose (eqb (count_of l b - 1) 0) (struck_from (put_count l b (count_of l b - 1)) 0 b) (put_count l b (count_of l b - 1))
