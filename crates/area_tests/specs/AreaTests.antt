-- The test of an area, region by region, in the order that the code follows. area_tests_P says that it is `area_right`.
--   most_bytes         == the bytes of the largest table
--   field_word z, field_test w j   == a word, and that of field j, is a number of 16 bits
--   area_tests w       == the sizes, the fields, checks 4 to 7 on the copied table, the heading, the records and the links (region_tests, RegionTests)
-- Assumes nothing.
use Rattle.std.specs.Prelude.{ℕ, ◌-◌, ◌*◌, Bool, ◌&&◌, List, eqb, leb, get_or, ℤ, pos, nat_abs}
use Rattle.base.specs.Sums.{all_to}
use Rattle.tables.specs.Table.{n_of, m_of, most_processes, most_arcs, field_total}
use Rattle.tables.specs.Reading.{fields_number}
use Rattle.areas.specs.Places.{field_place}
use Rattle.areas.specs.Area.{field_total_of, fields_in}
use Rattle.areas.specs.Area.{same_word}
use Rattle.region_tests.specs.RegionTests.{sizes_test, head_test, record_test, arc_test}

abbrev pub most_bytes : ℕ
most_bytes = 2 * field_total most_processes most_arcs

-- a word is a number of 16 bits
abbrev pub field_word : ℤ → Bool
field_word z = same_word z (pos (nat_abs z)) && leb (nat_abs z) 65535

unfoldable pub field_test : List ℤ → ℕ → Bool
field_test w j = field_word (get_or w (field_place j) (pos 0))

unfoldable pub area_tests : List ℤ → Bool
area_tests w =
    sizes_test w && all_to (field_total_of (fields_in w)) (λ j. field_test w (j - 1)) && eqb (fields_number (fields_in w)) 0 && head_test w &&
    all_to (n_of (fields_in w)) (record_test w) && all_to (m_of (fields_in w)) (arc_test w)
