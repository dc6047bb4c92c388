-- Cells of a right table, one arc more.
--   cell_small           == an arc more can be put into a cell
--   forth_put, back_put  == an arc of a pair put into the cell of the pair, if there is one
--   arc_low              == the number of a pair's arc, up to arc m, is at most m
--   place_is, place_low  == where the links of an arc begin, as code finds it, is a small number
-- Assumes nothing.
use Prim.Native.Nat.{ℕ, zero, suc, ◌≤◌, ◌<◌}
use mathlib.Core.Bool.{Bool, not}
use mathlib.Core.List.{List}
use mathlib.Core.Path.{◌≡◌}
use native.Mathlib.Omega.{arith}
use lib.Dec.{eqb, eqb-suc-zero}
use lib.IntN.{ℤ}
use Rattle.base.specs.Choice.{choose}
use Rattle.base.specs.ChoiceLaws.{tested, same?, bit_≤1}
use Rattle.base.specs.Checks.{Tested, passed, failed, Same, same, apart}
use Rattle.tables.specs.Table.{Fields, m_of, most_processes, most_arcs, says_wait}
use Rattle.tables.specs.Layout.{Right}
use Rattle.areas.specs.Places.{link_start, area_length}
use Rattle.areas.specs.Area.{link_place, arc_in, fields_in}
use Rattle.areas.specs.Squares.{cell_by, with_forth, with_back, cell_room}
use Rattle.areas.specs.SquareLaws.{with_forth_is, with_back_is}
use Rattle.tables.specs.declared.Sizes.{Sizes}
use Rattle.lenses.specs.Ready.{Ready}
use Rattle.lenses.specs.ReadyLaws.{ready_sizes}

pub arc_low : (t : Fields) (a b m : ℕ) → arc_in t a b m ≤ m
unfolding arc_in
arc_low t a b zero = omega arith
arc_low t a b (suc m) = at (same? (arc_in t a b m) 0) (tested (says_wait t a b (suc m))) (arc_low t a b m)
  where
    at : Same (arc_in t a b m) 0 → Tested (says_wait t a b (suc m)) → arc_in t a b m ≤ m → arc_in t a b (suc m) ≤ suc m
    at (same _ q) (passed p) u = rw (q, p) (omega arith)
    at (same _ q) (failed p) u = rw (q, p) (omega arith)
    at (apart _ q) p u = rw q (omega arith)

module _ (t : Fields) where
  pub cell_small : Right t → (i j : ℕ) → i ≤ m_of t → j ≤ m_of t → cell_by t i j < cell_room
  unfolding cell_by link_place
  cell_small g i j u v = at (same? i 0) (same? j 0)
    where
      at : Same i 0 → Same j 0 → cell_by t i j < cell_room
      at (same _ q) (same _ p) = rw (q, p) (omega arith)
      at (same _ q) (apart _ p) = rw (q, p) (omega (arith, g.sizes))
      at (apart _ q) _ = rw q (omega (arith, g.sizes, bit_≤1 (not (eqb j 0))))

  pub forth_put : (i j : ℕ) {w : Bool} → w ≡ not (eqb i 0) → choose w (with_forth (cell_by t 0 j) (link_place t i)) (cell_by t 0 j) ≡ cell_by t i j
  forth_put zero j e = rw e
  forth_put (suc k) j e = rw (e, eqb-suc-zero) (with_forth_is t j k)

  pub back_put : (i j : ℕ) {w : Bool} → w ≡ not (eqb j 0) → choose w (with_back (cell_by t i 0) (link_place t j)) (cell_by t i 0) ≡ cell_by t i j
  back_put i zero e = rw e
  back_put i (suc k) e = rw (e, eqb-suc-zero) (with_back_is t i k)

module _ {w : List ℤ} {z : Sizes} (y : Ready w z) (k : ℕ) {i : ℕ} (e : i ≡ link_start z.n z.m k) where
  pub place_is : i ≡ link_place (fields_in w) k
  unfolding link_place
  place_is = omega (arith, y.n_is, y.m_is)

  pub place_low : 1 ≤ k → k ≤ z.m → i ≤ area_length most_processes most_arcs
  place_low l u = omega (arith, ready_sizes y)
