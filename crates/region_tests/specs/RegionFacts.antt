-- What the test of an area says of its regions.
--   SizesFacts w        == the sizes are in range, and there are words enough for them
--   HeadRight w         == the start, the count and the edition are in range, and the words before the table are those of the layout
--   RecordRight w p     == the values of a record are right, and its words are those of the layout
--   ArcRight w k        == the messages on an arc's links are right, and their words are those of the layout
--   Placed w t r        == every word of the layout is that of the table t and the run r
-- Assumes nothing.
use Rattle.std.specs.Prelude.{ℕ, ◌+◌, ◌≤◌, ◌<◌, true, ◌&&◌, List, ◌≡◌, length, get_or, ℤ, pos}
use Rattle.tables.specs.Table.{n_of, arc_at, Fields, IsProcess}
use Rattle.tables.specs.Layout.{IsArc, Sizes}
use Rattle.steps.specs.Step.{in_range}
use Rattle.checks.specs.Run.{Run, most_deliveries, is_edition, link_right, father_right}
use Rattle.areas.specs.Places.{head_size, field_place, record_size, arc_size}
use Rattle.areas.specs.Area.{field_total_of, area_of, record_place, link_place, head_word, record_word, has_back, arc_word, fields_in, run_in}

pub record SizesFacts (w : List ℤ) : Type 0 where
  pub long : field_place 2 ≤ length w
  pub sizes : Sizes (fields_in w)
  pub enough : area_of (fields_in w) ≤ length w

pub record HeadRight (w : List ℤ) : Type 0 where
  pub start_is_in : IsProcess (n_of (fields_in w)) (run_in w).start
  pub few : (run_in w).count ≤ most_deliveries
  pub edition : is_edition (run_in w).edition ≡ true
  pub words : (k : ℕ) → k < head_size → get_or w k (pos 0) ≡ head_word (run_in w) k

pub record RecordRight (w : List ℤ) (p : ℕ) : Type 0 where
  pub values : (in_range ((run_in w).process p) && father_right (run_in w).waits p ((run_in w).process p)) ≡ true
  pub words : (j : ℕ) → j < record_size → get_or w (record_place (fields_in w) p + j) (pos 0) ≡ record_word ((run_in w).process p) j

pub record ArcRight (w : List ℤ) (k : ℕ) : Type 0 where
  pub forth : link_right ((run_in w).link (arc_at (fields_in w) k).from (arc_at (fields_in w) k).to) ≡ true
  pub back : has_back (fields_in w) k ≡ true → link_right ((run_in w).link (arc_at (fields_in w) k).to (arc_at (fields_in w) k).from) ≡ true
  pub words : (j : ℕ) → j < arc_size → get_or w (link_place (fields_in w) k + j) (pos 0) ≡ arc_word (fields_in w) (run_in w) k j

pub record Placed (w : List ℤ) (t : Fields) (r : Run) : Type 0 where
  pub head : (k : ℕ) → k < head_size → get_or w k (pos 0) ≡ head_word r k
  pub fields : (j : ℕ) → j < field_total_of t → get_or w (field_place j) (pos 0) ≡ pos (t j)
  pub records : (p : ℕ) → IsProcess (n_of t) p → (j : ℕ) → j < record_size → get_or w (record_place t p + j) (pos 0) ≡ record_word (r.process p) j
  pub links : (k : ℕ) → IsArc t k → (j : ℕ) → j < arc_size → get_or w (link_place t k + j) (pos 0) ≡ arc_word t r k j
