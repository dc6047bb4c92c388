-- What the tests of an area's regions are lent.
--   Loaded w bs l s     == the sizes of the area w are right, and s; the bytes bs hold its table, which meets checks 4 to 7; the sets l say who
--                          waits for whom by it
-- Assumes nothing.
use Rattle.std.specs.Prelude.{ℕ, true, List, ◌≡◌, ℤ}
use Rattle.tables.specs.declared.Sizes.{Sizes}
use Rattle.tables.specs.Table.{field_of}
use Rattle.tables.specs.Reading.{fields_number}
use Rattle.table_reader.specs.Inner.{HoldsTable}
use Rattle.areas.specs.Area.{fields_in}
use Rattle.region_tests.specs.RegionTests.{sizes_test}
use Rattle.region_tests.specs.Waiting.{Waiting}

pub record Loaded (w : List ℤ) (bs : List ℕ) (l : List ℕ) (s : Sizes) : Type 0 where
  pub sized : sizes_test w ≡ true
  pub holds : HoldsTable bs s
  pub table : field_of bs ≡ fields_in w
  pub meets : fields_number (fields_in w) ≡ 0
  pub waiting : Waiting (fields_in w) l
