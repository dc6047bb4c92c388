-- The numbers of the area's layout (docs/LAYOUT.md): where its parts begin and how many words they have, for code in src/places.rt too.
--   start_place, count_place, edition_place   == the words of the start, of the accepted deliveries and of the edition
--   head_size                  == how many words stand before the table
--   flags_place, cs_place, num_place, father_place, second_place   == the words of a process's record, counted from its first
--   count_zero, count_size      == what is added to each count of an acknowledgement, and how often the second is taken, in its one word
--   record_size                == how many words a process's record has
--   link_size                  == how many words a link has; the first most_waiting (checks, Run) hold its messages
--   arc_size                   == the words of an arc's two links
--   field_place j, record_start n m p, link_start n m k   == the word of field j, and where the record of p and the links of arc k begin
--   area_length n m            == "start needs 8N + 20M + 16"; the heading, the table, the records and the links fill it (PlacesLaws)
-- Assumes nothing.
use Rattle.std.specs.Prelude.{ℕ, ◌+◌, ◌-◌, ◌*◌}
use Rattle.tables.specs.Table.{field_total}

-- ---- the heading

abbrev pub start_place : ℕ
start_place = 1

-- the accepted deliveries
abbrev pub count_place : ℕ
count_place = 2

-- the edition named at start (02, N4)
abbrev pub edition_place : ℕ
edition_place = 3

abbrev pub head_size : ℕ
head_size = 14

-- ---- the copied table: a word for each field

abbrev pub field_place : ℕ → ℕ
field_place j = head_size + j

-- ---- the records of the processes

abbrev pub flags_place : ℕ
flags_place = 0

abbrev pub cs_place : ℕ
cs_place = 1

abbrev pub num_place : ℕ
num_place = 2

abbrev pub father_place : ℕ
father_place = 3

-- the second sum (02, N3)
abbrev pub second_place : ℕ
second_place = 4

abbrev pub record_size : ℕ
record_size = 6

abbrev pub record_start : ℕ → ℕ → ℕ → ℕ
record_start n m p = head_size + field_total n m + record_size * (p - 1)

-- ---- the links of the arcs, two for each: from its from to its to, and back

abbrev pub link_size : ℕ
link_size = 8

abbrev pub arc_size : ℕ
arc_size = link_size + link_size

abbrev pub link_start : ℕ → ℕ → ℕ → ℕ
link_start n m k = head_size + field_total n m + record_size * n + arc_size * (k - 1)

-- ---- an acknowledgement in one word: each count and 256, the second 512 times

abbrev pub count_zero : ℕ
count_zero = 256

abbrev pub count_size : ℕ
count_size = 512

-- ---- the whole: "start needs 8N + 20M + 16"

abbrev pub area_length : ℕ → ℕ → ℕ
area_length n m = 16 + 8 * n + 20 * m
