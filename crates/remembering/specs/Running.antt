-- What the deliveries of a run stand on.
--   Running w sq s   == the area w is tested and s are its N and M (`Ready`, lenses), and sq holds the cells of all its pairs (`Square`, areas)
-- Assumes nothing.
use Rattle.std.specs.Prelude.{ℕ, List, ℤ}
use Rattle.tables.specs.declared.Sizes.{Sizes}
use Rattle.areas.specs.Area.{fields_in}
use Rattle.areas.specs.Squares.{Square}
use Rattle.lenses.specs.Ready.{Ready}

-- a tested area and the cells of all its pairs
pub record Running (w : List ℤ) (sq : List ℕ) (s : Sizes) : Type 0 where
  pub ready : Ready w s
  pub square : Square (fields_in w) sq
