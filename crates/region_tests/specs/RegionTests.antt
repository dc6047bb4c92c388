-- The tests of an area's regions, in the order that the code follows.
--   sizes_test w       == enough words for N and M, which are in range, and for all that they need
--   edition_test w     == the edition is 1 or 2
--   head_test w        == which check, the start, the count, the edition, and zeros
--   numbers_test w k   == the words of the record at word k that are to be numbers are so
--   record_test w p    == the record of p: values in range, father 0 or a neighbour, zeros in the free words
--   arc_test w k       == the two links of arc k; zeros where it has no link back
-- Assumes nothing.
use Rattle.std.specs.Prelude.{ℕ, ◌+◌, Bool, ◌&&◌, List, leb, length, get_or, ℤ, pos}
use Rattle.base.specs.Choice.{choose}
use Rattle.tables.specs.Table.{most_processes, most_arcs, is_process}
use Rattle.tables.specs.Waits.{waits_of}
use Rattle.steps.specs.declared.Process.{Process}
use Rattle.steps.specs.Step.{in_range}
use Rattle.checks.specs.Run.{most_deliveries, is_edition, father_right}
use Rattle.areas.specs.Places.{start_place, count_place, edition_place, head_size, field_place, flags_place, num_place, father_place, record_size, link_size}
use Rattle.areas.specs.Places.{area_length}
use Rattle.areas.specs.Used.{link_slots}
use Rattle.areas.specs.Used.{check_place, head_used, record_used}
use Rattle.areas.specs.Area.{record_place, link_place, knot_check, record_word, has_back, number_at, fields_in, record_at}
use Rattle.areas.specs.Area.{same_word}
use Rattle.word_tests.specs.WordTests.{counts, are_free, link_test}

unfoldable pub sizes_test : List ℤ → Bool
sizes_test w =
    leb (field_place 2) (length w) && leb 1 (number_at w (field_place 0)) && leb (number_at w (field_place 0)) most_processes &&
    leb (number_at w (field_place 1)) most_arcs && leb (area_length (number_at w (field_place 0)) (number_at w (field_place 1))) (length w)

-- the edition is 1 or 2 (02, N4)
unfoldable pub edition_test : List ℤ → Bool
edition_test w = counts w edition_place && is_edition (number_at w edition_place)

unfoldable pub head_test : List ℤ → Bool
head_test w =
    same_word (get_or w check_place (pos 0)) knot_check && counts w start_place && is_process (number_at w (field_place 0)) (number_at w start_place) &&
    counts w count_place && leb (number_at w count_place) most_deliveries && edition_test w && are_free w head_used head_size

-- the flags, of at most 7, num and father of the record at word k are numbers of 0 or more
unfoldable pub numbers_test : List ℤ → ℕ → Bool
numbers_test w k = counts w (k + flags_place) && leb (number_at w (k + flags_place)) 7 && counts w (k + num_place) && counts w (k + father_place)

unfoldable pub record_test : List ℤ → ℕ → Bool
record_test w p =
    let k : ℕ = record_place (fields_in w) p in
    let x : Process = record_at w k in
    in_range x && father_right (waits_of (fields_in w)) p x && same_word (get_or w (k + flags_place) (pos 0)) (record_word x flags_place) &&
    counts w (k + num_place) && counts w (k + father_place) && are_free w (k + record_used) (k + record_size)

unfoldable pub arc_test : List ℤ → ℕ → Bool
arc_test w k =
    let i : ℕ = link_place (fields_in w) k in
    link_test link_slots link_size w i &&
    choose (has_back (fields_in w) k) (link_test link_slots link_size w (i + link_size)) (are_free w (i + link_size) (i + link_size + link_size))
