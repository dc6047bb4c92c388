-- What stands in an area with a table and a run in it.
--   stored_overlaid                           == such an area as words put before the rest of a list
--   stored_length, stored_word, stored_past   == its length, its words, and that "Surplus words are not touched."
--   stored_start_word, stored_edition_word, stored_count_word, stored_field_word, stored_record_word, stored_link_word   == its words by what
--                                                they hold
--   record_place_fits, link_place_fits, link_of_fits   == records and links stand inside the words that start needs
--   stored_of, stored_again   == an area is given by its words; storing anew forgets what was stored before
-- Assumes nothing.
use Rattle.std.specs.Prelude.{ℕ, ◌+◌, ◌≤◌, ◌<◌, true, List, ◌≡◌, refl, length, get_or, ℤ, pos}
use Rattle.std.proofs.Common.{sym, ap, ◌∙◌, arith}
use Rattle.tables.specs.Table.{Fields, n_of, m_of}
use Rattle.tables.specs.Waits.{waits_of, neighbours}
use Rattle.checks.specs.Run.{Run}
use Rattle.areas.specs.Places.{start_place, count_place, edition_place, field_place, record_size, link_size, arc_size}
use Rattle.areas.specs.Area.{field_total_of, area_of, record_place, link_place, link_of, record_word, link_word, word_of, stored}
use Rattle.areas.specs.Arcs.{LinkAt, forth, back}
use Rattle.areas.specs.Overlaid.{overlaid}
use Rattle.areas.specs.OverlaidLaws.{overlaid_long, overlaid_at, overlaid_past, overlaid_of, overlaid_again}
use Rattle.areas.specs.ArcLaws.{link_of_at}
use Rattle.areas.specs.WordLaws.{word_of_head, word_of_field, word_of_record, word_of_link}

pub stored_overlaid : (t : Fields) (r : Run) (w : List ℤ) → stored t r w ≡ overlaid (area_of t) (word_of t r) w
unfolding stored overlaid
stored_overlaid t r w = refl

-- ---- length and words

pub stored_length : (t : Fields) (r : Run) (w : List ℤ) → area_of t ≤ length w → length (stored t r w) ≡ length w
stored_length t r w h = rw stored_overlaid (omega (arith, overlaid_long (area_of t) (word_of t r) w))

pub stored_word : (t : Fields) (r : Run) (w : List ℤ) (k : ℕ) (d : ℤ) → k < area_of t → get_or (stored t r w) k d ≡ word_of t r k
stored_word t r w k d h = rw stored_overlaid (overlaid_at (area_of t) (word_of t r) w k d h)

pub stored_past : (t : Fields) (r : Run) (w : List ℤ) (k : ℕ) (d : ℤ) → area_of t ≤ k → get_or (stored t r w) k d ≡ get_or w k d
stored_past t r w k d h = rw stored_overlaid (overlaid_past (area_of t) (word_of t r) w k d h)

-- ---- records and links stand inside the area

pub record_place_fits : (t : Fields) (p : ℕ) → 1 ≤ p → p ≤ n_of t → record_place t p + record_size ≤ area_of t
unfolding record_place
record_place_fits t p l u = omega arith

pub link_place_fits : (t : Fields) (k : ℕ) → 1 ≤ k → k ≤ m_of t → link_place t k + arc_size ≤ area_of t
unfolding link_place
link_place_fits t k l u = omega arith

pub link_of_fits : (t : Fields) (a b : ℕ) → neighbours (waits_of t) a b ≡ true → link_of t a b + link_size ≤ area_of t
link_of_fits t a b n = at (link_of_at t a b n)
  where
    at : LinkAt t a b → link_of t a b + link_size ≤ area_of t
    at (forth k j e) = omega (arith, link_place_fits t k j.0.0 j.0.1)
    at (back k j y e) = omega (arith, link_place_fits t k j.0.0 j.0.1)

-- ---- the words by what they hold

pub stored_start_word : (t : Fields) (r : Run) (w : List ℤ) (d : ℤ) → get_or (stored t r w) start_place d ≡ pos r.start
stored_start_word t r w d = stored_word t r w start_place d (omega arith) ∙ word_of_head t r start_place (omega arith)

pub stored_edition_word : (t : Fields) (r : Run) (w : List ℤ) (d : ℤ) → get_or (stored t r w) edition_place d ≡ pos r.edition
stored_edition_word t r w d = stored_word t r w edition_place d (omega arith) ∙ word_of_head t r edition_place (omega arith)

pub stored_count_word : (t : Fields) (r : Run) (w : List ℤ) (d : ℤ) → get_or (stored t r w) count_place d ≡ pos r.count
stored_count_word t r w d = stored_word t r w count_place d (omega arith) ∙ word_of_head t r count_place (omega arith)

pub stored_field_word : (t : Fields) (r : Run) (w : List ℤ) (j : ℕ) (d : ℤ) → j < field_total_of t → get_or (stored t r w) (field_place j) d ≡ pos (t j)
stored_field_word t r w j d h = stored_word t r w (field_place j) d (omega arith) ∙ word_of_field t r j h

pub stored_record_word : (t : Fields) (r : Run) (w : List ℤ) (p j : ℕ) (d : ℤ) → 1 ≤ p → p ≤ n_of t → j < record_size
    → get_or (stored t r w) (record_place t p + j) d ≡ record_word (r.process p) j
stored_record_word t r w p j d l u h =
    stored_word t r w (record_place t p + j) d (omega (arith, record_place_fits t p l u)) ∙ word_of_record t r p j l u h

pub stored_link_word : (t : Fields) (r : Run) (w : List ℤ) (a b j : ℕ) (d : ℤ) → neighbours (waits_of t) a b ≡ true → j < link_size
    → get_or (stored t r w) (link_of t a b + j) d ≡ link_word (r.link a b) j
stored_link_word t r w a b j d n h =
    stored_word t r w (link_of t a b + j) d (omega (arith, link_of_fits t a b n)) ∙ word_of_link t r a b j n h

-- ---- equal areas

-- a list with these words is that area
pub stored_of : (t : Fields) (r : Run) (w l : List ℤ) (d : ℤ) → area_of t ≤ length w → length l ≡ length w
    → ((k : ℕ) → k < area_of t → get_or l k d ≡ word_of t r k) → ((k : ℕ) → area_of t ≤ k → get_or l k d ≡ get_or w k d) → l ≡ stored t r w
stored_of t r w l d h e low high = rw stored_overlaid (overlaid_of (area_of t) (word_of t r) w l d (omega arith) low high)

pub stored_again : (t : Fields) (r q : Run) (w : List ℤ) → stored t r (stored t q w) ≡ stored t r w
stored_again t r q w =
    stored_overlaid t r (stored t q w)
    ∙ ap (overlaid (area_of t) (word_of t r)) (stored_overlaid t q w)
    ∙ overlaid_again (area_of t) (word_of t r) (word_of t q) w
    ∙ sym (stored_overlaid t r w)
