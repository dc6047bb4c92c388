-- What the parts of a call stand on once an area is tested.
--   Ready w s             == the area w is well formed, and s are its N and M
-- Assumes nothing.
use Rattle.std.specs.Prelude.{true, List, ◌≡◌, ℤ}
use Rattle.tables.specs.Table.{n_of, m_of}
use Rattle.areas.specs.Area.{fields_in, area_right}
use Rattle.tables.specs.declared.Sizes.{Sizes}

pub record Ready (w : List ℤ) (s : Sizes) : Type 0 where
  pub right : area_right w ≡ true
  pub n_is : s.n ≡ n_of (fields_in w)
  pub m_is : s.m ≡ m_of (fields_in w)
