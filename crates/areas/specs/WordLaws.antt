-- Word by word: which word of an area stands where, and that every word of an area is one of these.
--   word_of_head, word_of_field, word_of_record, word_of_arc, word_of_link   == the words of the heading, the copied table, a record, an arc's two
--                                                links, one link
--   arc_word_forth, arc_word_back, arc_word_free   == the words of an arc's two links, and zeros where it has no link back
--   place?                                      == of which region a word is
-- Assumes nothing.
use Rattle.std.specs.Prelude.{ℕ, ◌+◌, ◌-◌, ◌/◌, ◌%◌, ◌≤◌, ◌<◌, true, false, ◌≡◌, pos}
use Rattle.std.proofs.Common.{ap₂, ◌∙◌, arith, lt-ltb, le-ltb}
use Rattle.base.specs.ChoiceLaws.{below?}
use Rattle.base.specs.Checks.{Below, below, beyond}
use Rattle.tables.specs.Table.{Fields, n_of, m_of, arc_at}
use Rattle.tables.specs.Waits.{waits_of, neighbours}
use Rattle.checks.specs.Run.{Run}
use Rattle.areas.specs.Places.{head_size, field_place, record_size, record_start, link_size, arc_size}
use Rattle.areas.specs.Area.{field_total_of, area_of, record_place, link_place, link_of, head_word, record_word, link_word, has_back, arc_word, word_of}
use Rattle.areas.specs.Arcs.{LinkAt, forth, back}
use Rattle.areas.specs.Regions.{Place, in_head, in_table, in_record, in_links}
use Rattle.areas.specs.ArcLaws.{link_of_at}

-- ---- the words of each kind

pub word_of_head : (t : Fields) (r : Run) (k : ℕ) → k < head_size → word_of t r k ≡ head_word r k
unfolding word_of
word_of_head t r k h = rw (lt-ltb k head_size h)

pub word_of_field : (t : Fields) (r : Run) (j : ℕ) → j < field_total_of t → word_of t r (field_place j) ≡ pos (t j)
unfolding word_of record_place
word_of_field t r j h =
    let e : field_place j - head_size ≡ j = omega arith in
    rw (le-ltb (field_place j) head_size (omega arith), lt-ltb (field_place j) (record_start (n_of t) (m_of t) 1) (omega arith), e)

-- where the index of a record's word falls
record InRecord (t : Fields) (k p j : ℕ) : Type 0 where
  past_head : head_size ≤ k
  past_table : record_place t 1 ≤ k
  before_links : k < link_place t 1
  process : (k - record_place t 1) / record_size + 1 ≡ p
  word : (k - record_place t 1) % record_size ≡ j

record_place_in : (t : Fields) (p j : ℕ) → 1 ≤ p → p ≤ n_of t → j < record_size → InRecord t (record_place t p + j) p j
unfolding record_place link_place
record_place_in t p j l u h =
    record { past_head = omega arith; past_table = omega arith; before_links = omega arith; process = omega arith; word = omega arith }

word_of_in_record : (t : Fields) (r : Run) (k p j : ℕ) → InRecord t k p j → word_of t r k ≡ record_word (r.process p) j
unfolding word_of
word_of_in_record t r k p j i =
    rw (le-ltb k head_size i.past_head, le-ltb k (record_place t 1) i.past_table, lt-ltb k (link_place t 1) i.before_links, i.process, i.word)

pub word_of_record : (t : Fields) (r : Run) (p j : ℕ) → 1 ≤ p → p ≤ n_of t → j < record_size → word_of t r (record_place t p + j) ≡ record_word (r.process p) j
word_of_record t r p j l u h = word_of_in_record t r (record_place t p + j) p j (record_place_in t p j l u h)

-- where the index of a word of an arc's links falls
record InLinks (t : Fields) (k a j : ℕ) : Type 0 where
  past_head : head_size ≤ k
  past_table : record_place t 1 ≤ k
  past_records : link_place t 1 ≤ k
  arc : (k - link_place t 1) / arc_size + 1 ≡ a
  word : (k - link_place t 1) % arc_size ≡ j

link_place_in : (t : Fields) (a j : ℕ) → 1 ≤ a → j < arc_size → InLinks t (link_place t a + j) a j
unfolding record_place link_place
link_place_in t a j l h =
    record { past_head = omega arith; past_table = omega arith; past_records = omega arith; arc = omega arith; word = omega arith }

word_of_in_links : (t : Fields) (r : Run) (k a j : ℕ) → InLinks t k a j → word_of t r k ≡ arc_word t r a j
unfolding word_of
word_of_in_links t r k a j i =
    rw (le-ltb k head_size i.past_head, le-ltb k (record_place t 1) i.past_table, le-ltb k (link_place t 1) i.past_records, i.arc, i.word)

pub word_of_arc : (t : Fields) (r : Run) (k j : ℕ) → 1 ≤ k → j < arc_size → word_of t r (link_place t k + j) ≡ arc_word t r k j
word_of_arc t r k j l h = word_of_in_links t r (link_place t k + j) k j (link_place_in t k j l h)

-- ---- an arc's links

-- the first link of an arc
pub arc_word_forth : (t : Fields) (r : Run) (k j : ℕ) → j < link_size → arc_word t r k j ≡ link_word (r.link (arc_at t k).from (arc_at t k).to) j
unfolding arc_word
arc_word_forth t r k j h = rw (lt-ltb j link_size h)

-- the second, with the link back and without
pub arc_word_back : (t : Fields) (r : Run) (k j : ℕ) → has_back t k ≡ true
    → arc_word t r k (link_size + j) ≡ link_word (r.link (arc_at t k).to (arc_at t k).from) j
unfolding arc_word
arc_word_back t r k j b =
    let e : link_size + j - link_size ≡ j = omega arith in
    rw (le-ltb (link_size + j) link_size (omega arith), b, e)

pub arc_word_free : (t : Fields) (r : Run) (k j : ℕ) → link_size ≤ j → has_back t k ≡ false → arc_word t r k j ≡ pos 0
unfolding arc_word
arc_word_free t r k j h b = rw (le-ltb j link_size h, b)

-- the link between two neighbours, wherever it stands
pub word_of_link : (t : Fields) (r : Run) (a b j : ℕ) → neighbours (waits_of t) a b ≡ true → j < link_size
    → word_of t r (link_of t a b + j) ≡ link_word (r.link a b) j
word_of_link t r a b j n h = at (link_of_at t a b n)
  where
    at : LinkAt t a b → word_of t r (link_of t a b + j) ≡ link_word (r.link a b) j
    at (forth k i e) =
        rw e (word_of_arc t r k j i.0.0 (omega arith) ∙ arc_word_forth t r k j h ∙ ap₂ (λ (x y : ℕ). link_word (r.link x y) j) i.1 i.2)
    at (back k i y e) =
        let s : link_place t k + link_size + j ≡ link_place t k + (link_size + j) = omega arith in
        rw (e, s)
        (word_of_arc t r k (link_size + j) i.0.0 (omega arith) ∙ arc_word_back t r k j y ∙ ap₂ (λ (x y : ℕ). link_word (r.link x y) j) i.2 i.1)

-- ---- every word is one of these

pub place? : (t : Fields) (k : ℕ) → k < area_of t → Place t k
unfolding record_place link_place
place? t k h = at (below? k head_size) (below? k (record_place t 1)) (below? k (link_place t 1))
  where
    at : Below k head_size → Below k (record_place t 1) → Below k (link_place t 1) → Place t k
    at (below p _) _ _ = in_head p
    at (beyond p _) (below q _) _ = in_table (k - head_size) (omega arith) (omega arith)
    at (beyond p _) (beyond q _) (below s _) =
        let i : ℕ = k - record_place t 1 in
        in_record (i / record_size + 1) (i % record_size) (omega arith) (omega arith) (omega arith) (omega arith)
    at (beyond p _) (beyond q _) (beyond s _) =
        let i : ℕ = k - link_place t 1 in
        in_links (i / arc_size + 1) (i % arc_size) (omega arith) (omega arith) (omega arith) (omega arith)
