-- Pairs of ends in a square that has a cell for each pair of numbers from 0 to the largest N: how check 7 is made in linear time on the pairs
-- that are written. (On arcs that are read it goes along the chains, by table_reader.)
--   square_side, square_size   == how many rows the square has, and cells in each; how many cells it has (in code SIDE, SQUARE_SIZE)
--   Seen from to k cells   == a cell is set exactly if one of the first k pairs, from and to, is its row and its column
-- Assumes nothing.
use Rattle.std.specs.Prelude.{ℕ, ◌+◌, ◌*◌, ◌≤◌, Bool, false, ◌&&◌, List, ◌≡◌, eqb, length, get_or}
use Rattle.base.specs.Sums.{any_to}
use Rattle.tables.specs.Table.{most_processes}

abbrev pub square_side : ℕ
square_side = most_processes + 1

abbrev pub square_size : ℕ
square_size = square_side * square_side

pub record Seen (from to : ℕ → ℕ) (k : ℕ) (cells : List Bool) : Type 0 where
  pub long : length cells ≡ square_size
  pub at : (a b : ℕ) → a ≤ most_processes → b ≤ most_processes → get_or cells (a * square_side + b) false ≡ any_to k (λ j. eqb (from j) a && eqb (to j) b)
