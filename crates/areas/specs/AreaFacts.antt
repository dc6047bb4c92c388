-- Well-formed areas, part by part.
--   AreaRight w    == what `area_right w` says
--   RightTable t   == the fields of a table that meets 01's section "Wait table", and no others
-- Assumes nothing.
use Rattle.std.specs.Prelude.{ℕ, ◌≤◌, ◌<◌, true, List, ◌≡◌, length, get_or, ℤ, pos}
use Rattle.tables.specs.Table.{Fields}
use Rattle.tables.specs.Layout.{Right}
use Rattle.checks.specs.Run.{well_formed}
use Rattle.areas.specs.Area.{field_total_of, area_of, word_of, fields_in, run_in}
use Rattle.areas.specs.Contained.{Shut}

pub record AreaRight (w : List ℤ) : Type 0 where
  pub right : Right (fields_in w)
  pub long : area_of (fields_in w) ≤ length w
  pub fields : (j : ℕ) → j < field_total_of (fields_in w) → fields_in w j ≤ 65535
  pub run : well_formed (run_in w) ≡ true
  pub words : (k : ℕ) → k < area_of (fields_in w) → get_or w k (pos 0) ≡ word_of (fields_in w) (run_in w) k

-- a table that meets 01's section "Wait table", with no field past its last
pub record RightTable (t : Fields) : Type 0 where
  pub right : Right t
  pub shut : Shut t
