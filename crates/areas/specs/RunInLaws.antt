-- What is read from an area, value by value.
--   fields_in_n, fields_in_m, fields_in_at, fields_in_shut   == the fields of the copied table
--   run_in_n, run_in_process, run_in_link, run_in_forth, run_in_back, run_in_contained   == the run: its records, its links, the two links of an arc, and
--       nothing besides
-- Assumes nothing.
use Rattle.std.specs.Prelude.{ℕ, ◌+◌, ◌≤◌, ◌<◌, true, List, ◌≡◌, refl, ℤ}
use Rattle.std.proofs.Common.{ap, ◌∙◌, lt-ltb, le-ltb, arith}
use Rattle.tables.specs.TableLaws.{is_process_P}
use Rattle.tables.specs.Table.{Fields, n_of, m_of, arc_at, IsProcess}
use Rattle.tables.specs.Layout.{IsArc, Right}
use Rattle.tables.specs.Waits.{waits_of, neighbours}
use Rattle.tables.specs.WaitsLaws.{neighbours_swap}
use Rattle.areas.specs.Places.{field_place, link_size}
use Rattle.areas.specs.Used.{link_slots}
use Rattle.areas.specs.Area.{field_total_of, record_place, link_place, link_of, has_back, number_at, fields_in, record_at, messages_at, run_in}
use Rattle.areas.specs.Contained.{cut, Shut, Contained}
use Rattle.areas.specs.ArcLaws.{link_of_arc, link_of_back, neighbours_arc}

-- ---- cut

cut_n : (t : Fields) → n_of (cut t) ≡ n_of t
unfolding cut
cut_n t = rw (lt-ltb 0 (field_total_of t) (omega arith))

cut_m : (t : Fields) → m_of (cut t) ≡ m_of t
unfolding cut
cut_m t = rw (lt-ltb 1 (field_total_of t) (omega arith))

cut_at : (t : Fields) (j : ℕ) → j < field_total_of t → cut t j ≡ t j
unfolding cut
cut_at t j h = rw (lt-ltb j (field_total_of t) h)

cut_past : (t : Fields) (j : ℕ) → field_total_of t ≤ j → cut t j ≡ 0
unfolding cut
cut_past t j h = rw (le-ltb j (field_total_of t) h)

-- ---- fields_in

pub fields_in_n : (w : List ℤ) → n_of (fields_in w) ≡ number_at w (field_place 0)
unfolding fields_in cut
fields_in_n w = cut_n (λ j. number_at w (field_place j))

pub fields_in_m : (w : List ℤ) → m_of (fields_in w) ≡ number_at w (field_place 1)
unfolding fields_in cut
fields_in_m w = cut_m (λ j. number_at w (field_place j))

pub fields_in_at : (w : List ℤ) (j : ℕ) → j < field_total_of (fields_in w) → fields_in w j ≡ number_at w (field_place j)
unfolding fields_in cut
fields_in_at w j h = cut_at (λ i. number_at w (field_place i)) j (omega (arith, cut_n (λ i. number_at w (field_place i)), cut_m (λ i. number_at w (field_place i))))

pub fields_in_shut : (w : List ℤ) → Shut (fields_in w)
unfolding fields_in cut
fields_in_shut w j h =
    cut_past (λ i. number_at w (field_place i)) j (omega (arith, cut_n (λ i. number_at w (field_place i)), cut_m (λ i. number_at w (field_place i))))

-- ---- run_in

pub run_in_process : (w : List ℤ) (p : ℕ) → IsProcess (n_of (fields_in w)) p → (run_in w).process p ≡ record_at w (record_place (fields_in w) p)
unfolding run_in
run_in_process w p h = rw ((is_process_P (n_of (fields_in w)) p).1 h)

pub run_in_n : (w : List ℤ) → (run_in w).waits.n ≡ n_of (fields_in w)
unfolding run_in waits_of
run_in_n w = refl

pub run_in_link : (w : List ℤ) (a b : ℕ) → neighbours (waits_of (fields_in w)) a b ≡ true → (run_in w).link a b ≡ messages_at w (link_of (fields_in w) a b) link_slots
unfolding run_in
run_in_link w a b h = rw h

pub run_in_contained : (w : List ℤ) → Contained (fields_in w) (run_in w)
unfolding run_in
run_in_contained w = record { waits = refl; processes = λ p h. rw h; links = λ a b h. rw h }

-- the first link of an arc, and the second where there is one
pub run_in_forth : (w : List ℤ) → Right (fields_in w) → (k : ℕ) → IsArc (fields_in w) k
    → (run_in w).link (arc_at (fields_in w) k).from (arc_at (fields_in w) k).to ≡ messages_at w (link_place (fields_in w) k) link_slots
run_in_forth w g k r = run_in_link w _ _ (neighbours_arc (fields_in w) k r) ∙ ap (λ (i : ℕ). messages_at w i link_slots) (link_of_arc (fields_in w) g k r)

pub run_in_back : (w : List ℤ) → Right (fields_in w) → (k : ℕ) → IsArc (fields_in w) k → has_back (fields_in w) k ≡ true
    → (run_in w).link (arc_at (fields_in w) k).to (arc_at (fields_in w) k).from ≡ messages_at w (link_place (fields_in w) k + link_size) link_slots
run_in_back w g k r h =
    run_in_link w _ _ (neighbours_swap (waits_of (fields_in w)) _ _ ∙ neighbours_arc (fields_in w) k r)
    ∙ ap (λ (i : ℕ). messages_at w i link_slots) (link_of_back (fields_in w) g k r h)
