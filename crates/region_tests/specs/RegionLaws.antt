-- The tests of an area's regions, each with what it says of the run that the area holds and of the words.
--   sizes_test_P                 == the sizes are in range, and there are words enough
--   head_test_P                  == the start and the count are in range, and the head's words are those of the layout
--   record_test_P                == a record's values are right, and its words are those of the layout
--   arc_test_P                   == the messages on an arc's links are right, and its words are those of the layout
--   placed_P                    == every word of the layout, region by region
-- Assumes nothing.
use Prim.Native.Nat.{ℕ, ◌+◌, ◌<◌, zero, suc, ◌-◌, ◌≤◌}
use Rattle.std.specs.Prelude.{true, ◌&&◌, List, ◌↔◌, ◌≡◌, refl, get_or, length, ℤ, pos, leb, ltb}
use Rattle.std.proofs.lemmas.Bool.{false≢true}
use Rattle.std.proofs.Common.{sym, ◌∙◌, subst, le-leb, ltb-true, ltb-false, arith}
use Rattle.machine.specs.Machine as Machines
use Rattle.tables.specs.Table.{Fields, arc_at, n_of, IsProcess}
use Rattle.tables.specs.TableLaws.{is_process_P}
use Rattle.tables.specs.Layout.{IsArc, Right}
use Rattle.checks.specs.Run.{Run, most_deliveries, is_edition, link_right, counts_small, father_right}
use Rattle.areas.specs.Places.{start_place, count_place, edition_place, head_size, field_place, flags_place, num_place, father_place, record_size, link_size}
use Rattle.areas.specs.Places.{arc_size}
use Rattle.areas.specs.Used.{link_slots}
use Rattle.areas.specs.Used.{check_place, head_used, record_used}
use Rattle.areas.specs.Area.{area_of, record_place, link_place, knot_check, head_word, record_word, link_word, has_back, arc_word, word_of, number_at}
use Rattle.areas.specs.Area.{fields_in, record_at, messages_at, run_in}
use Rattle.areas.specs.Regions.{Place, in_head, in_table, in_record, in_links}
use Rattle.areas.specs.Tells.{Tells}
use Rattle.areas.specs.TellsLaws.{tells_map, tells_le, tells_id, tells_both, tells_passed, tells_failed}
use Rattle.areas.specs.WordLaws.{word_of_head, word_of_field, word_of_record, word_of_arc, arc_word_forth, arc_word_back, arc_word_free, place?}
use Rattle.areas.specs.StoredLaws.{record_place_fits, link_place_fits}
use Rattle.areas.specs.WordTestLaws.{same_word_P}
use Rattle.areas.specs.RunInLaws.{fields_in_n, run_in_process, run_in_contained, run_in_forth, run_in_back}
use Rattle.areas.specs.LinkLaws.{messages_at_length, link_word_slots}
use Rattle.region_tests.specs.RegionTests.{sizes_test, edition_test, head_test, record_test, arc_test}
use Rattle.region_tests.specs.RegionFacts.{SizesFacts, HeadRight, RecordRight, ArcRight, Placed}
use Rattle.base.specs.Choice.{choose}
use Rattle.base.specs.ChoiceLaws.{and_both, and_right, tested}
use Rattle.base.specs.Checks.{Tested, passed, failed}
use Rattle.tables.specs.Waits.{waits_of}
use Rattle.steps.specs.declared.Message.{Message}
use Rattle.steps.specs.declared.Process.{Process}
use Rattle.steps.specs.Step.{in_range}
use Rattle.tables.specs.Table.{m_of, most_processes, most_arcs}
use Rattle.areas.specs.Places.{area_length}
use Rattle.areas.specs.RunInLaws.{fields_in_m}
use Rattle.word_tests.specs.WordTests.{are_free, link_test}
use Rattle.word_tests.specs.LinkTestLaws.{tells_counts, tells_are_free, link_test_P}

-- the word at k
abbrev word : List ℤ → ℕ → ℤ
word w k = get_or w k (pos 0)

-- ---- the sizes

pub sizes_test_P : (w : List ℤ) → Tells (sizes_test w) (SizesFacts w)
unfolding sizes_test
sizes_test_P w =
    let n : n_of (fields_in w) ≡ number_at w (field_place 0) = fields_in_n w in
    let m : m_of (fields_in w) ≡ number_at w (field_place 1) = fields_in_m w in
    tells_map (λ s. record { long = s.0.0.0.0; sizes = (omega arith, omega arith, omega arith); enough = omega arith })
    (λ s. ((((s.long, omega arith), omega arith), omega arith), omega arith))
    (tells_both
    (tells_both
    (tells_both (tells_both (tells_le (field_place 2) (length w)) (tells_le 1 (number_at w (field_place 0))))
    (tells_le (number_at w (field_place 0)) most_processes))
    (tells_le (number_at w (field_place 1)) most_arcs))
    (tells_le (area_length (number_at w (field_place 0)) (number_at w (field_place 1))) (length w)))

-- ---- the head

pub head_test_P : (w : List ℤ) → Tells (head_test w) (HeadRight w)
unfolding head_test edition_test run_in
head_test_P w =
    tells_map to from
    (tells_both
    (tells_both
    (tells_both
    (tells_both
    (tells_both (tells_both (same_word_P (word w check_place) knot_check) (tells_counts w start_place))
    (is_process_P (number_at w (field_place 0)) (number_at w start_place)))
    (tells_counts w count_place))
    (tells_le (number_at w count_place) most_deliveries))
    (tells_both (tells_counts w edition_place) (tells_id (is_edition (number_at w edition_place)))))
    (tells_are_free w head_used head_size))
  where
    Values : Type 0
    Values =
        (((((word w check_place ≡ knot_check) × (word w start_place ≡ pos (number_at w start_place)))
        × IsProcess (number_at w (field_place 0)) (number_at w start_place))
        × (word w count_place ≡ pos (number_at w count_place)))
        × (number_at w count_place ≤ most_deliveries))
        × ((word w edition_place ≡ pos (number_at w edition_place)) × (is_edition (number_at w edition_place) ≡ true))

    Said : Type 0
    Said = Values × ((j : ℕ) → j < head_size - head_used → word w (head_used + j) ≡ pos 0)

    words : Said → (k : ℕ) → k < head_size → word w k ≡ head_word (run_in w) k
    words s zero u = s.0.0.0.0.0.0
    words s (suc zero) u = s.0.0.0.0.0.1
    words s (suc (suc zero)) u = s.0.0.0.1
    words s (suc (suc (suc zero))) u = s.0.1.0
    words s (suc (suc (suc (suc k)))) u = subst (λ (i : ℕ). word w i ≡ pos 0) (omega arith) (s.1 k (omega arith))

    to : Said → HeadRight w
    to s = record { start_is_in = rw (fields_in_n w) s.0.0.0.0.1; few = s.0.0.1; edition = s.0.1.1; words = words s }

    free : HeadRight w → (j : ℕ) → j < head_size - head_used → word w (head_used + j) ≡ pos 0
    free h j u = subst (λ (i : ℕ). word w i ≡ pos 0) (omega arith) (h.words (suc (suc (suc (suc j)))) (omega arith))

    from : HeadRight w → Said
    from h =
        let p : IsProcess (number_at w (field_place 0)) (number_at w start_place) = rw (fields_in_n w) at h.start_is_in in (
          (
            ((((h.words check_place (omega arith), h.words start_place (omega arith)), p), h.words count_place (omega arith)), h.few),
            (h.words edition_place (omega arith), h.edition),
          ),
          free h,
        )

-- ---- a record

-- the record x at the place of p
record RecordAs (w : List ℤ) (p : ℕ) (x : Process) : Type 0 where
  values : (in_range x && father_right (waits_of (fields_in w)) p x) ≡ true
  words : (j : ℕ) → j < record_size → word w (record_place (fields_in w) p + j) ≡ record_word x j

record_as : (w : List ℤ) (p : ℕ) → Tells (record_test w p) (RecordAs w p (record_at w (record_place (fields_in w) p)))
unfolding record_test
record_as w p =
    tells_map to from
    (tells_both
    (tells_both
    (tells_both
    (tells_both (tells_id (in_range x && father_right (waits_of (fields_in w)) p x)) (same_word_P (word w (k + flags_place)) (record_word x flags_place)))
    (tells_counts w (k + num_place)))
    (tells_counts w (k + father_place)))
    (tells_are_free w (k + record_used) (k + record_size)))
  where
    k : ℕ
    k = record_place (fields_in w) p

    x : Process
    x = record_at w k

    Said : Type 0
    Said =
        (((((in_range x && father_right (waits_of (fields_in w)) p x) ≡ true) × (word w (k + flags_place) ≡ record_word x flags_place))
        × (word w (k + num_place) ≡ pos (number_at w (k + num_place))))
        × (word w (k + father_place) ≡ pos (number_at w (k + father_place))))
        × ((j : ℕ) → j < k + record_size - (k + record_used) → word w (k + record_used + j) ≡ pos 0)

    words : Said → (j : ℕ) → j < record_size → word w (k + j) ≡ record_word x j
    words s zero u = s.0.0.0.1
    words s (suc zero) u = refl
    words s (suc (suc zero)) u = s.0.0.1
    words s (suc (suc (suc zero))) u = s.0.1
    words s (suc (suc (suc (suc zero)))) u = refl
    words s (suc (suc (suc (suc (suc j))))) u = subst (λ (i : ℕ). word w i ≡ pos 0) (omega arith) (s.1 j (omega arith))

    to : Said → RecordAs w p x
    to s = record { values = s.0.0.0.0; words = words s }

    free : RecordAs w p x → (j : ℕ) → j < k + record_size - (k + record_used) → word w (k + record_used + j) ≡ pos 0
    free h j u = subst (λ (i : ℕ). word w i ≡ pos 0) (omega arith) (h.words (suc (suc (suc (suc (suc j))))) (omega arith))

    from : RecordAs w p x → Said
    from h =
        ((((h.values, h.words flags_place (omega arith)), h.words num_place (omega arith)), h.words father_place (omega arith)), free h)

pub record_test_P : (w : List ℤ) (p : ℕ) → IsProcess (n_of (fields_in w)) p → Tells (record_test w p) (RecordRight w p)
record_test_P w p h = tells_map to from (record_as w p)
  where
    is : (run_in w).process p ≡ record_at w (record_place (fields_in w) p)
    is = run_in_process w p h

    to : RecordAs w p (record_at w (record_place (fields_in w) p)) → RecordRight w p
    to s = record { values = rw (is, (run_in_contained w).waits) s.values; words = λ j u. rw is (s.words j u) }

    from : RecordRight w p → RecordAs w p (record_at w (record_place (fields_in w) p))
    from s = record { values = rw (is, (run_in_contained w).waits) at s.values; words = λ j u. rw is at (s.words j u) }

-- ---- the links of an arc

-- the link that an arc has at word i
LinkAs : List ℤ → ℕ → Type 0
LinkAs w i =
    (link_right (messages_at w i link_slots) ≡ true) × ((j : ℕ) → j < link_size → word w (i + j) ≡ link_word (messages_at w i link_slots) j)

link_as : (w : List ℤ) (i : ℕ) → Tells (link_test link_slots link_size w i) (LinkAs w i)
unfolding LinkAs Machines.link_right
link_as w i =
    tells_map
    (λ s. (and_both (leb (length ms) link_slots) (counts_small ms) (le-leb (length ms) link_slots few) s.0, λ j u. s.1 j u ∙ sym (link_word_slots ms j few)))
    (λ s. (and_right (leb (length ms) link_slots) (counts_small ms) s.0, λ j u. s.1 j u ∙ link_word_slots ms j few))
    (link_test_P link_slots link_size w i)
  where
    ms : List Message
    ms = messages_at w i link_slots

    few : length ms ≤ link_slots
    few = messages_at_length w i link_slots

module _ (w : List ℤ) (g : Right (fields_in w)) (k : ℕ) (r : IsArc (fields_in w) k) where
  First : Type 0
  First =
      (link_right ((run_in w).link (arc_at (fields_in w) k).from (arc_at (fields_in w) k).to) ≡ true) ×
      ((j : ℕ) → j < link_size → word w (link_place (fields_in w) k + j) ≡ arc_word (fields_in w) (run_in w) k j)

  Second : Type 0
  Second =
      (has_back (fields_in w) k ≡ true → link_right ((run_in w).link (arc_at (fields_in w) k).to (arc_at (fields_in w) k).from) ≡ true) ×
      ((j : ℕ) → j < link_size → word w (link_place (fields_in w) k + link_size + j) ≡ arc_word (fields_in w) (run_in w) k (link_size + j))

  first_P : Tells (link_test link_slots link_size w (link_place (fields_in w) k)) First
  unfolding First LinkAs
  first_P = tells_map to from (link_as w i)
    where
      i : ℕ
      i = link_place (fields_in w) k

      is : (run_in w).link (arc_at (fields_in w) k).from (arc_at (fields_in w) k).to ≡ messages_at w i link_slots
      is = run_in_forth w g k r

      at : (j : ℕ) → j < link_size → arc_word (fields_in w) (run_in w) k j ≡ link_word (messages_at w i link_slots) j
      at j u = arc_word_forth (fields_in w) (run_in w) k j u ∙ rw is

      to : LinkAs w i → First
      to s = (rw is s.0, λ j u. s.1 j u ∙ sym (at j u))

      from : First → LinkAs w i
      from s = (rw is at s.0, λ j u. s.1 j u ∙ at j u)

  abbrev back_place : ℕ
  back_place = link_place (fields_in w) k + link_size

  second_P : Tested (has_back (fields_in w) k)
      → Tells (choose (has_back (fields_in w) k) (link_test link_slots link_size w back_place) (are_free w back_place (back_place + link_size))) Second
  unfolding Second LinkAs
  second_P (passed h) = tells_passed (has_back (fields_in w) k) _ _ h (tells_map to from (link_as w (i + link_size)))
    where
      i : ℕ
      i = link_place (fields_in w) k

      is : (run_in w).link (arc_at (fields_in w) k).to (arc_at (fields_in w) k).from ≡ messages_at w (i + link_size) link_slots
      is = run_in_back w g k r h

      at : (j : ℕ) → arc_word (fields_in w) (run_in w) k (link_size + j) ≡ link_word (messages_at w (i + link_size) link_slots) j
      at j = arc_word_back (fields_in w) (run_in w) k j h ∙ rw is

      to : LinkAs w (i + link_size) → Second
      to s = (λ e. rw is s.0, λ j u. s.1 j u ∙ sym (at j))

      from : Second → LinkAs w (i + link_size)
      from s = (rw is at (s.0 h), λ j u. s.1 j u ∙ at j)
  second_P (failed h) = tells_failed (has_back (fields_in w) k) _ _ h (tells_map to from (tells_are_free w (i + link_size) (i + link_size + link_size)))
    where
      i : ℕ
      i = link_place (fields_in w) k

      at : (j : ℕ) → arc_word (fields_in w) (run_in w) k (link_size + j) ≡ pos 0
      at j = arc_word_free (fields_in w) (run_in w) k (link_size + j) (omega arith) h

      Free : Type 0
      Free = (j : ℕ) → j < i + link_size + link_size - (i + link_size) → word w (i + link_size + j) ≡ pos 0

      to : Free → Second
      to s = (λ e. absurd (false≢true (sym h ∙ e)), λ j u. s j (omega arith) ∙ sym (at j))

      from : Second → Free
      from s j u = s.1 j (omega arith) ∙ at j

  pub arc_test_P : Tells (arc_test w k) (ArcRight w k)
  unfolding arc_test First Second
  arc_test_P = tells_map to from (tells_both first_P (second_P (tested (has_back (fields_in w) k))))
    where
      i : ℕ
      i = link_place (fields_in w) k

      same_place : (j : ℕ) → link_size ≤ j → word w (i + link_size + (j - link_size)) ≡ arc_word (fields_in w) (run_in w) k (link_size + (j - link_size))
          → word w (i + j) ≡ arc_word (fields_in w) (run_in w) k j
      same_place j l e =
          let p : i + link_size + (j - link_size) ≡ i + j = omega arith in
          let q : link_size + (j - link_size) ≡ j = omega arith in
          rw (p, q) at e

      words : First × Second → (j : ℕ) → j < arc_size → Tested (ltb j link_size) → word w (i + j) ≡ arc_word (fields_in w) (run_in w) k j
      words s j u (passed q) = s.0.1 j (ltb-true j link_size q)
      words s j u (failed q) = let l : link_size ≤ j = ltb-false j link_size q in same_place j l (s.1.1 (j - link_size) (omega arith))

      to : First × Second → ArcRight w k
      to s = record { forth = s.0.0; back = s.1.0; words = λ j u. words s j u (tested (ltb j link_size)) }

      from : ArcRight w k → First × Second
      from s = (
        (s.forth, λ j u. s.words j (omega arith)),
        (
          s.back,
          λ j u. subst (λ (n : ℕ). word w n ≡ arc_word (fields_in w) (run_in w) k (link_size + j)) (omega arith) (s.words (link_size + j) (omega arith)),
        ),
      )

-- ---- all regions

-- every word of the layout, region by region
pub placed_P : (w : List ℤ) (t : Fields) (r : Run) → ((k : ℕ) → k < area_of t → get_or w k (pos 0) ≡ word_of t r k) ↔ Placed w t r
placed_P w t r = (split, λ g k u. at g k (place? t k u))
  where
    split : ((k : ℕ) → k < area_of t → get_or w k (pos 0) ≡ word_of t r k) → Placed w t r
    split h =
        record {
          head = λ k u. h k (omega arith) ∙ word_of_head t r k u;
          fields = λ j u. h (field_place j) (omega arith) ∙ word_of_field t r j u;
          records = λ p q j u. h (record_place t p + j) (omega (arith, record_place_fits t p q.0 q.1)) ∙ word_of_record t r p j q.0 q.1 u;
          links = λ k q j u. h (link_place t k + j) (omega (arith, link_place_fits t k q.0 q.1)) ∙ word_of_arc t r k j q.0 u;
        }

    at : Placed w t r → (k : ℕ) → Place t k → get_or w k (pos 0) ≡ word_of t r k
    at g k (in_head u) = g.head k u ∙ sym (word_of_head t r k u)
    at g k (in_table j u e) = rw e (g.fields j u ∙ sym (word_of_field t r j u))
    at g k (in_record p j l m u e) = rw e (g.records p (l, m) j u ∙ sym (word_of_record t r p j l m u))
    at g k (in_links a j l m u e) = rw e (g.links a (l, m) j u ∙ sym (word_of_arc t r a j l u))
