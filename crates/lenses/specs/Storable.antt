-- The runs that a tested area may hold.
--   Storable t r          == a run that the area of the table t can hold, and that is well formed
-- Assumes nothing.
use Rattle.std.specs.Prelude.{true, ◌≡◌}
use Rattle.tables.specs.Table.{Fields}
use Rattle.tables.specs.Sound.{Sound}
use Rattle.checks.specs.Run.{Run, well_formed}
use Rattle.areas.specs.Contained.{Contained}

-- a run that the area of the table t can hold, and that is well formed
pub record Storable (t : Fields) (r : Run) : Type 0 where
  pub held : Contained t r
  pub formed : well_formed r ≡ true
  pub sound : Sound r.waits
