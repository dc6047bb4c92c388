-- Check 7 by a square of pairs of ends: a cell is set exactly if one of the first k pairs has its ends.
--   SeenPairs      == the cells after k pairs
--   unlike_cell    == the test of the next pair by its cell
-- Assumes nothing.
use Prim.Native.Nat.{ℕ, ◌+◌, ◌-◌, ◌*◌, ◌≤◌}
use mathlib.Core.Bool.{Bool, false, not}
use mathlib.Core.List.{List}
use mathlib.Core.Path.{◌≡◌, sym, ap}
use native.Mathlib.Omega.{arith}
use lib.ListN.{get_or}
use Rattle.tables.specs.declared.Chain.TheVariants.{Out, In}
use Rattle.tables.specs.Table.{most_processes}
use Rattle.tables.specs.Pairs.{square_side, Seen}
use Rattle.tables.specs.PairLaws.{seen_cell}
use Rattle.table_writer.specs.Writing.{end, given, unlike}

abbrev pub SeenPairs : List ℕ → ℕ → List Bool → Type 0
SeenPairs list k cells = Seen (end Out list) (end In list) k cells

pub unlike_cell : (list : List ℕ) (k x y i : ℕ) (cells : List Bool) → x ≤ most_processes → y ≤ most_processes
    → x ≡ end Out list (k + 1) → y ≡ end In list (k + 1) → i ≡ x * square_side + y → SeenPairs list k cells → unlike list (k + 1) ≡ not (get_or cells i false)
unfolding unlike given
unlike_cell list k x y i cells u v p q c m =
    let one_less : k + 1 - 1 ≡ k = omega arith in
    rw one_less (sym (ap not (seen_cell (end Out list) (end In list) k x y i cells u v p q c m)))
