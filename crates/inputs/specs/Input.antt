-- The check program's input (01, "The check program"; 02, N4): "start process (16 bits)", the edition "as a 16-bit field after the start
-- process", "table, then picks (from, to, 16 bits each)".
--   start_in bs, edition_in bs   == the start process, and the edition
--   before_table         == the bytes of these two, before the table
--   table_fields bs      == the fields of the table
--   table_end bs         == where the table ends by its own N and M, and the picks begin
--   table_in bs          == the table's bytes
--   picks_in bs          == the number of whole picks
--   longest             == the most bytes that are read
--   input_number bs      == "The program checks 13, 1, 2, 3, 12": the first that is met, 0 if none is
--   FirstMet bs r       == r is the first row that the input meets, in the same order, each row in 01's words; 0 if it meets none
--   parts_of bs          == its parts: the start process, the edition, where the table ends, and the number of picks
--   split_of bs          == the answer of splitting the input: its parts, or the refusal with the number
--   pick_from bs j, pick_to bs j   == the two ends that pick j names, counted from 0
--   pick_in bs j         == that pick
--   begun_number bs w    == the same checks, "then 4 to 8", then 30: start on the input's table (its 9 if the words are too few)
--   begun_of bs w        == the answer: where the picks begin and how many there are, or the refusal with the number
--   begun_area bs w      == the area that this leaves
--   ZeroOr a h n, ThenMet n   == n is 0, or a to h; n is 0, 4 to 8, or 30
-- Assumes nothing.
use Rattle.std.specs.Prelude.{ℕ, ◌+◌, ◌-◌, ◌*◌, ◌/◌, ◌%◌, ◌≤◌, ◌<◌, not, List, ◌⊎◌, ◌≡◌, Result, eqb, ltb, ℤ, length, take, drop}
use Rattle.base.specs.Choice.{choose}
use Rattle.refusals.specs.declared.Refusal.{Refusal}
use Rattle.refusals.specs.Numbers.{answered}
use Rattle.tables.specs.Table.{Fields, field_of, n_of, m_of, table_length}
use Rattle.tables.specs.Layout.{Sizes}
use Rattle.tables.specs.Reading.{sizes_right}
use Rattle.starting.specs.StartCall.{start_number, start_area}
use Rattle.inputs.specs.declared.Parts.{Parts}
use Rattle.inputs.specs.declared.Pick.{Pick}
use Rattle.inputs.specs.declared.Begun.{Begun}

-- "start process (16 bits)"
unfoldable pub start_in : List ℕ → ℕ
start_in bs = field_of bs 0

-- 02, N4: "the program reads it as a 16-bit field after the start process"
unfoldable pub edition_in : List ℕ → ℕ
edition_in bs = field_of bs 1

-- "4 bytes before the table" (02, N4)
abbrev pub before_table : ℕ
before_table = 4

-- "table": it begins after the edition
unfoldable pub table_fields : List ℕ → Fields
table_fields bs = field_of (drop before_table bs)

-- where the table ends, by its own N and M
unfoldable pub table_end : List ℕ → ℕ
table_end bs = before_table + table_length (n_of (table_fields bs)) (m_of (table_fields bs))

unfoldable pub table_in : List ℕ → List ℕ
table_in bs = take (table_end bs - before_table) (drop before_table bs)

-- "picks (from, to, 16 bits each)": as many as are whole
unfoldable pub picks_in : List ℕ → ℕ
picks_in bs = (length bs - table_end bs) / 4

-- the longest input that is read: "input over 20,480 bytes" is met above it
abbrev pub longest : ℕ
longest = 20480

-- "The program checks 13, 1, 2, 3, 12": 1 is "under 4 bytes", and "under 4 bytes before the table" (02, N4), 3 "too few bytes",
-- 12 "1 to 3 bytes left after the last whole pick"
unfoldable pub input_number : List ℕ → ℕ
input_number bs =
    choose (ltb longest (length bs)) 13
    (choose (ltb (length bs) (before_table + 4)) 1
    (choose (not (sizes_right (table_fields bs))) 2
    (choose (ltb (length bs) (table_end bs)) 3
    (choose (not (eqb ((length bs - table_end bs) % 4) 0)) 12
    0))))

-- 13 "input over 20,480 bytes", 1 "under 4 bytes", also "before the table" (02, N4), 2 "N or M outside its range", 3 "too few bytes", 12 "1 to 3
-- bytes left after the last whole pick"; each row says that none before it is met
pub data FirstMet (bs : List ℕ) : ℕ → Type 0 where
  row_13 : 20480 < length bs → FirstMet bs 13
  row_1 : length bs ≤ 20480 → length bs < before_table + 4 → FirstMet bs 1
  row_2 : length bs ≤ 20480 → before_table + 4 ≤ length bs → (Sizes (table_fields bs) → ⊥) → FirstMet bs 2
  row_3 : length bs ≤ 20480 → before_table + 4 ≤ length bs → Sizes (table_fields bs) → length bs < table_end bs → FirstMet bs 3
  row_12 : length bs ≤ 20480 → Sizes (table_fields bs) → table_end bs + 4 * picks_in bs + 1 ≤ length bs → length bs ≤ table_end bs + 4 * picks_in bs + 3 →
      FirstMet bs 12
  no_row : length bs ≤ 20480 → Sizes (table_fields bs) → table_end bs + 4 * picks_in bs ≡ length bs → FirstMet bs 0

-- the start process, the edition, where the table ends, and the number of picks
abbrev pub parts_of : List ℕ → Parts
parts_of bs = record { start = start_in bs; edition = edition_in bs; end = table_end bs; picks = picks_in bs }

-- the answer by 01's number
abbrev pub split_by : ℕ → List ℕ → Result Parts Refusal
split_by n bs = answered n (parts_of bs)

unfoldable pub split_of : List ℕ → Result Parts Refusal
split_of bs = split_by (input_number bs) bs

-- pick j, counted from 0: its sender and its receiver
unfoldable pub pick_from : List ℕ → ℕ → ℕ
pick_from bs j = field_of (drop (table_end bs) bs) (2 * j)

unfoldable pub pick_to : List ℕ → ℕ → ℕ
pick_to bs j = field_of (drop (table_end bs) bs) (2 * j + 1)

unfoldable pub pick_in : List ℕ → ℕ → Pick
pick_in bs j = record { from = pick_from bs j; to = pick_to bs j }

-- "then 4 to 8", then 30 (02, N4): the checks of start on the input's table
unfoldable pub begun_number : List ℕ → List ℤ → ℕ
begun_number bs w = choose (eqb (input_number bs) 0) (start_number (table_in bs) (start_in bs) (edition_in bs) w) (input_number bs)

-- the answer by 01's number: where the picks begin, and how many there are
abbrev pub begun_by : ℕ → List ℕ → Result Begun Refusal
begun_by n bs = answered n (record { end = table_end bs; picks = picks_in bs })

unfoldable pub begun_of : List ℕ → List ℤ → Result Begun Refusal
begun_of bs w = begun_by (begun_number bs w) bs

-- the area that a begun program leaves; a refusal changes no word
unfoldable pub begun_area : List ℕ → List ℤ → List ℤ
begun_area bs w = choose (eqb (input_number bs) 0) (start_area (table_in bs) (start_in bs) (edition_in bs) w) w

-- n is 0, or a to h
abbrev pub ZeroOr : ℕ → ℕ → ℕ → Type 0
ZeroOr a h n = (n ≡ 0) ⊎ ((a ≤ n) × (n ≤ h))

-- "then 4 to 8", and 30 "after 8" (02, N4)
abbrev pub ThenMet : ℕ → Type 0
ThenMet n = ZeroOr 4 8 n ⊎ (n ≡ 30)
