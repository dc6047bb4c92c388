-- Where links stand, by pairs of processes, in a local array: for each ordered pair a number, its cell.
--   cell_by t i j           == what a cell says by the numbers of the arcs forth and back, 0 where there is none
--   cell_of t a b           == the cell of a and b: 0 if they are no neighbours, else 4 times the first word of the link from a to b, 2 more if b
--                             waits for a, and 1 more if a waits for b
--   place_in k, joins_in c k == what is read from a cell: the first word of the link, and whether the pair is joined by the chain
--   with_forth k i, with_back k i   == the cell with an arc more, whose links begin at word i, from the first to the second, and from the second to the
--                             first
--   cell_room               == a cell below it can be given an arc back within 16 bits
--   Linked t a b i         == a and b are neighbours, and the link from a to b begins at word i
--   Row t b row            == the row of b holds the cells of b and each q of 0 to 128
--   cell sq a b            == the cell of a and b in a square
--   Square t sq            == the rows of 0 to 128, one behind the other
-- Assumes nothing.
use Rattle.std.specs.Prelude.{ℕ, ◌+◌, ◌*◌, ◌/◌, ◌%◌, ◌≤◌, Bool, true, not, List, ◌≡◌, eqb, length, get_or}
use Rattle.base.specs.Choice.{choose, bit}
use Rattle.tables.specs.declared.Chain.{Chain}
use Rattle.tables.specs.declared.Chain.TheVariants.{Out, In}
use Rattle.tables.specs.Table.{Fields, most_processes}
use Rattle.tables.specs.Pairs.{square_side, square_size}
use Rattle.areas.specs.Places.{link_size}
use Rattle.tables.specs.Waits.{waits_of, neighbours}
use Rattle.areas.specs.Area.{link_place, arc_of, link_of}

-- the link from the first to the second is the first of the arc forth, else the second of the arc back
unfoldable pub cell_by : Fields → ℕ → ℕ → ℕ
cell_by t i j =
    choose (eqb i 0)
    (choose (eqb j 0) 0 (4 * (link_place t j + link_size) + 2))
    (4 * link_place t i + 2 * bit (not (eqb j 0)) + 1)

unfoldable pub cell_of : Fields → ℕ → ℕ → ℕ
cell_of t a b = cell_by t (arc_of t a b) (arc_of t b a)

abbrev pub place_in : ℕ → ℕ
place_in k = k / 4

abbrev pub joins_in : Chain → ℕ → Bool
joins_in Out k = eqb (k % 2) 1
joins_in In k = eqb (k / 2 % 2) 1

unfoldable pub with_forth : ℕ → ℕ → ℕ
with_forth k i = 4 * i + k / 2 % 2 * 2 + 1

unfoldable pub with_back : ℕ → ℕ → ℕ
with_back k i = choose (eqb (k % 2) 1) (k + 2) (4 * (i + link_size) + 2)

abbrev pub cell_room : ℕ
cell_room = 65534

pub record Linked (t : Fields) (a b i : ℕ) : Type 0 where
  pub joined : neighbours (waits_of t) a b ≡ true
  pub at : i ≡ link_of t a b

pub record Row (t : Fields) (b : ℕ) (row : List ℕ) : Type 0 where
  pub long : length row ≡ square_side
  pub cells : (q : ℕ) → q ≤ most_processes → get_or row q 0 ≡ cell_of t b q

abbrev pub cell : List ℕ → ℕ → ℕ → ℕ
cell sq a b = get_or sq (a * square_side + b) 0

pub record Square (t : Fields) (sq : List ℕ) : Type 0 where
  pub long : length sq ≡ square_size
  pub cells : (a b : ℕ) → a ≤ most_processes → b ≤ most_processes → cell sq a b ≡ cell_of t a b
