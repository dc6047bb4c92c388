-- What the answer of reading a table tells.
--   Accepts bs n m     == all that an accepted table is known by: its N and M, their ranges, its length, and that no check fails
--   Refuses bs r       == r is the number of the first check that fails, one of 1 to 7
-- Assumes nothing.
use Rattle.std.specs.Prelude.{ℕ, ◌≤◌, List, ◌≡◌, length}
use Rattle.tables.specs.Table.{field_of, n_of, m_of, most_processes, most_arcs, table_length}
use Rattle.tables.specs.Reading.{fields_number, read_number}

pub record Refuses (bs : List ℕ) (r : ℕ) : Type 0 where
  pub number : read_number bs ≡ r
  pub some : r ≡ 0 → ⊥

pub record Accepts (bs : List ℕ) (n m : ℕ) : Type 0 where
  pub number : read_number bs ≡ 0
  pub processes : n ≡ n_of (field_of bs)
  pub arcs : m ≡ m_of (field_of bs)
  pub some : 1 ≤ n
  pub few : n ≤ most_processes
  pub arcs_few : m ≤ most_arcs
  pub long : length bs ≡ table_length n m
  pub fields : fields_number (field_of bs) ≡ 0
