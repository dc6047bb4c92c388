-- What the code of the test leaves.
--   sizes_of b w       == the answer of a test that came out as b: N and M of the area, or 21
--   CopiedTo w c bs   == bytes hold the first c fields of the area's table, and 0 past them
-- Assumes nothing.
use Rattle.std.specs.Prelude.{ℕ, Bool, true, false, List, ◌≡◌, ltb, ℤ, Result, Ok, Err}
use Rattle.base.specs.Choice.{choose}
use Rattle.refusals.specs.declared.Refusal.{Refusal}
use Rattle.refusals.specs.Numbers.{numbered}
use Rattle.tables.specs.Table.{field_of}
use Rattle.tables.specs.declared.Sizes.{Sizes}
use Rattle.areas.specs.Places.{field_place}
use Rattle.areas.specs.Area.{number_at}

abbrev pub sizes_of : Bool → List ℤ → Result Sizes Refusal
sizes_of true w = Ok (record { n = number_at w (field_place 0); m = number_at w (field_place 1) })
sizes_of false w = Err (numbered 21)

pub record CopiedTo (w : List ℤ) (c : ℕ) (bs : List ℕ) : Type 0 where
  pub fields : (j : ℕ) → field_of bs j ≡ choose (ltb j c) (number_at w (field_place j)) 0
