-- Where a word of an area stands.
--   Place t k      == word k is of the heading, of the table, of a record, or of an arc's links
-- Assumes nothing.
use Rattle.std.specs.Prelude.{ℕ, ◌+◌, ◌≤◌, ◌<◌, ◌≡◌}
use Rattle.tables.specs.Table.{Fields, n_of, m_of}
use Rattle.areas.specs.Places.{head_size, field_place, record_size, arc_size}
use Rattle.areas.specs.Area.{field_total_of, record_place, link_place}

pub data Place (t : Fields) (k : ℕ) : Type 0 where
  in_head : k < head_size → Place t k
  in_table : (j : ℕ) → j < field_total_of t → k ≡ field_place j → Place t k
  in_record : (p j : ℕ) → 1 ≤ p → p ≤ n_of t → j < record_size → k ≡ record_place t p + j → Place t k
  in_links : (a j : ℕ) → 1 ≤ a → a ≤ m_of t → j < arc_size → k ≡ link_place t a + j → Place t k
