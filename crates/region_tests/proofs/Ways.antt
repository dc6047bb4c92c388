-- The tests of an area's regions in the parts that the code makes: a way out of the code that fails a part fails the test, and the last way
-- out passes all parts but one.
--   tells_no                      == a test fails where what it says does not hold
--   tells_last                    == where a test says what its last part says, it is that part
--   sizes_are, right_is, sizes_fit   == the sizes that are lent are N and M of the area, its table meets the layout, and they are in range
--   failing                       == a call that gave false, where its test was to pass
--   HeadParts, head_test_parts     == the head
--   flags_parts                   == the flags' word is the flags packed again exactly if it is a number of at most 7
--   father_right_none, father_right_over, father_right_joined   == father 0, father over N, and any other by the sets
--   RecordParts, record_test_parts == a record
--   NumberParts, numbers_test_parts, numbers_counted   == the words of a record that are to be numbers
--   arc_test_empty, arc_test_no, arc_test_back, arc_test_free   == an arc's two links
-- Assumes nothing.
use Prim.Native.Nat.{ℕ, ◌+◌, ◌*◌, ◌/◌, ◌%◌, ◌≤◌, ◌<◌}
use mathlib.Core.Bool.{Bool, true, false, not, ◌||◌, false≢true}
use mathlib.Core.List.{List}
use mathlib.Core.Path.{◌≡◌, sym, ap, ◌∙◌}
use native.Mathlib.Omega.{arith}
use borrow.Author.Tests.{eq-eqb, ne_eqb}
use lib.Dec.{eqb}
use lib.IntN.{ℤ, pos}
use lib.ListN.{get_or}
use Rattle.base.specs.Choice.{choose}
use Rattle.base.specs.ChoiceLaws.{tested}
use Rattle.base.specs.Checks.{Tested, passed, failed}
use Rattle.tables.specs.declared.Sizes.{Sizes}
use Rattle.tables.specs.Table.{Fields, n_of, m_of, most_processes, most_arcs, is_process, IsProcess, arc_at}
use Rattle.tables.specs.Layout.{Right}
use Rattle.tables.specs.LayoutLaws.{fields_number_P}
use Rattle.tables.specs.Waits.{waits_of, neighbours}
use Rattle.tables.specs.WaitsLaws.{waits_of_sound, neighbours_ends}
use Rattle.sets.specs.Sets.{is_in}
use Rattle.steps.specs.declared.Process.{Process}
use Rattle.steps.specs.Step.{in_range}
use Rattle.checks.specs.Run.{most_deliveries, father_right}
use Rattle.areas.specs.Places.{start_place, count_place, head_size, field_place, flags_place, num_place, father_place, record_size, link_size, arc_size}
use Rattle.areas.specs.Used.{link_slots}
use Rattle.areas.specs.Used.{check_place, head_used, record_used, Counted}
use Rattle.areas.specs.Area.{record_place, link_place, arc_of, knot_check, flags_of, has_back, number_at, fields_in, record_at, same_word}
use Rattle.areas.specs.Tells.{Tells}
use Rattle.areas.specs.TellsLaws.{tells_map, tells_le, tells_id, tells_both, tells_same}
use Rattle.areas.specs.WordTestLaws.{same_word_P, counts_as}
use Rattle.areas.specs.ArcLaws.{arc_of_waits}
use Rattle.region_tests.specs.RegionTests.{edition_test, head_test, numbers_test, record_test, arc_test}
use Rattle.word_tests.specs.WordTests.{counts, are_free, link_test}
use Rattle.region_tests.specs.Waiting.{Waiting}
use Rattle.region_tests.specs.Loaded.{Loaded}
use Rattle.region_tests.specs.RegionLaws.{sizes_test_P}
use Rattle.region_tests.specs.WaitingLaws.{waiting_joined}
use Rattle.word_tests.specs.LinkTestLaws.{tells_are_free, link_test_empty}

pub tells_no : {b : Bool} {P : Type 0} → Tells b P → (P → ⊥) → b ≡ false
tells_no {b} h never = at (tested b)
  where
    at : Tested b → b ≡ false
    at (passed e) = absurd (never (h.0 e))
    at (failed e) = e

pub tells_last : {b r : Bool} {P : Type 0} → Tells b P → (r ≡ true → P) → (P → r ≡ true) → r ≡ b
tells_last {b} {r} h f g = tells_same r b (f, g) h

-- a call gave false, and its test passes: both cannot be
pub failing : {b t : Bool} → b ≡ t → b ≡ false → t ≡ true → ⊥
failing {b} {t} e h p = false≢true (sym h ∙ (e ∙ p))

pub sizes_are : {w : List ℤ} {bs l : List ℕ} {s : Sizes} → Loaded w bs l s → (s.n ≡ n_of (fields_in w)) × (s.m ≡ m_of (fields_in w))
sizes_are h = (h.holds.processes ∙ ap (λ (t : Fields). n_of t) h.table, h.holds.arcs ∙ ap (λ (t : Fields). m_of t) h.table)

pub right_is : {w : List ℤ} {bs l : List ℕ} {s : Sizes} → Loaded w bs l s → Right (fields_in w)
right_is {w} h = (fields_number_P (fields_in w) ((sizes_test_P w).0 h.sized).sizes).0 h.meets

pub sizes_fit : {w : List ℤ} {bs l : List ℕ} {s : Sizes} → Loaded w bs l s → (s.n ≤ most_processes) × (s.m ≤ most_arcs)
sizes_fit h = let f = (right_is h).sizes in omega (arith, f.1, f.2, (sizes_are h).0, (sizes_are h).1)

-- ---- the head

pub record HeadParts (w : List ℤ) : Type 0 where
  pub check : same_word (get_or w check_place (pos 0)) knot_check ≡ true
  pub start : counts w start_place ≡ true
  pub start_is_in : is_process (number_at w (field_place 0)) (number_at w start_place) ≡ true
  pub count : counts w count_place ≡ true
  pub few : number_at w count_place ≤ most_deliveries
  pub edition : edition_test w ≡ true
  pub free : are_free w head_used head_size ≡ true

pub head_test_parts : (w : List ℤ) → Tells (head_test w) (HeadParts w)
unfolding head_test
head_test_parts w =
    tells_map
    (λ s. record {
      check = s.0.0.0.0.0.0;
      start = s.0.0.0.0.0.1;
      start_is_in = s.0.0.0.0.1;
      count = s.0.0.0.1;
      few = s.0.0.1;
      edition = s.0.1;
      free = s.1;
    })
    (λ s. ((((((s.check, s.start), s.start_is_in), s.count), s.few), s.edition), s.free))
    (tells_both
    (tells_both
    (tells_both
    (tells_both
    (tells_both (tells_both (tells_id (same_word (get_or w check_place (pos 0)) knot_check)) (tells_id (counts w start_place)))
    (tells_id (is_process (number_at w (field_place 0)) (number_at w start_place))))
    (tells_id (counts w count_place)))
    (tells_le (number_at w count_place) most_deliveries))
    (tells_id (edition_test w)))
    (tells_id (are_free w head_used head_size)))

-- ---- a record

-- a number of at most 7 is its three bits
bits : (n : ℕ) → n ≤ 7 → n ≡ n % 2 + 2 * (n / 2 % 2) + 4 * (n / 4 % 2)
bits n h =
    let q : n / 2 / 2 ≡ n / 4 = omega arith in
    let r : n / 4 % 2 ≡ n / 4 = omega arith in
    omega arith

flags_parts : (w : List ℤ) (k : ℕ)
    → Tells (same_word (get_or w (k + flags_place) (pos 0)) (pos (flags_of (record_at w k))))
    ((counts w (k + flags_place) ≡ true) × (number_at w (k + flags_place) ≤ 7))
unfolding flags_of
flags_parts w k = tells_map to from (same_word_P (get_or w i (pos 0)) (pos (flags_of (record_at w k))))
  where
    i : ℕ
    i = k + flags_place

    to : get_or w i (pos 0) ≡ pos (flags_of (record_at w k)) → (counts w i ≡ true) × (number_at w i ≤ 7)
    to e =
        let n : number_at w i ≡ flags_of (record_at w k) = ap lib.IntN.nat_abs e in
        ((same_word_P (get_or w i (pos 0)) (pos (number_at w i))).1 (counts_as w i (flags_of (record_at w k)) e), omega arith)

    from : (counts w i ≡ true) × (number_at w i ≤ 7) → get_or w i (pos 0) ≡ pos (flags_of (record_at w k))
    from s = (same_word_P (get_or w i (pos 0)) (pos (number_at w i))).0 s.0 ∙ ap pos (bits (number_at w i) s.1)

-- the father of p, by the sets
module _ (w : List ℤ) (l : List ℕ) (right : Right (fields_in w)) (waiting : Waiting (fields_in w) l) (p : ℕ) (x : Process) where
  pub father_right_none : x.father ≡ 0 → father_right (waits_of (fields_in w)) p x ≡ true
  unfolding father_right
  father_right_none e = rw (eq-eqb x.father 0 e)

  pub father_right_over : n_of (fields_in w) < x.father → father_right (waits_of (fields_in w)) p x ≡ false
  unfolding father_right waits_of
  father_right_over h = rw (ne_eqb x.father 0 (λ e. omega arith)) (at (tested (neighbours (waits_of (fields_in w)) p x.father)))
    where
      at : Tested (neighbours (waits_of (fields_in w)) p x.father) → neighbours (waits_of (fields_in w)) p x.father ≡ false
      at (passed e) = absurd (omega (arith, (neighbours_ends (waits_of (fields_in w)) (waits_of_sound (fields_in w) right) p x.father e).3))
      at (failed e) = e

  pub father_right_joined : {b : Bool} → (x.father ≡ 0 → ⊥) → IsProcess most_processes p → IsProcess most_processes x.father
      → b ≡ (is_in l p x.father || is_in l x.father p) → b ≡ father_right (waits_of (fields_in w)) p x
  unfolding father_right
  father_right_joined d i j e = rw (ne_eqb x.father 0 d) (e ∙ waiting_joined (fields_in w) waiting p x.father i j)

pub record RecordParts (w : List ℤ) (p k : ℕ) (x : Process) : Type 0 where
  pub values : in_range x ≡ true
  pub father : father_right (waits_of (fields_in w)) p x ≡ true
  pub flags : counts w (k + flags_place) ≡ true
  pub bits : number_at w (k + flags_place) ≤ 7
  pub num_word : counts w (k + num_place) ≡ true
  pub father_word : counts w (k + father_place) ≡ true
  pub free : are_free w (k + record_used) (k + record_size) ≡ true

record_test_at : (w : List ℤ) (p : ℕ) → Tells (record_test w p) (RecordParts w p (record_place (fields_in w) p) (record_at w (record_place (fields_in w) p)))
unfolding record_test
record_test_at w p =
    tells_map
    (λ s. record {
      values = s.0.0.0.0.0;
      father = s.0.0.0.0.1;
      flags = s.0.0.0.1.0;
      bits = s.0.0.0.1.1;
      num_word = s.0.0.1;
      father_word = s.0.1;
      free = s.1;
    })
    (λ s. (((((s.values, s.father), (s.flags, s.bits)), s.num_word), s.father_word), s.free))
    (tells_both
    (tells_both
    (tells_both
    (tells_both (tells_both (tells_id (in_range x)) (tells_id (father_right (waits_of (fields_in w)) p x))) (flags_parts w k))
    (tells_id (counts w (k + num_place))))
    (tells_id (counts w (k + father_place))))
    (tells_id (are_free w (k + record_used) (k + record_size))))
  where
    k : ℕ
    k = record_place (fields_in w) p

    x : Process
    x = record_at w k

-- the record stands at word k, and x was read there
pub record_test_parts : (w : List ℤ) (p k : ℕ) (x : Process) → k ≡ record_place (fields_in w) p → x ≡ record_at w k → Tells (record_test w p) (RecordParts w p k x)
record_test_parts w p k x ek ex = rw (ex, ek) (record_test_at w p)

-- the words that are to be numbers, which are looked at first
pub record NumberParts (w : List ℤ) (k : ℕ) : Type 0 where
  pub flags : counts w (k + flags_place) ≡ true
  pub bits : number_at w (k + flags_place) ≤ 7
  pub num_word : counts w (k + num_place) ≡ true
  pub father_word : counts w (k + father_place) ≡ true

pub numbers_test_parts : (w : List ℤ) (k : ℕ) → Tells (numbers_test w k) (NumberParts w k)
unfolding numbers_test
numbers_test_parts w k =
    tells_map
    (λ s. record { flags = s.0.0.0; bits = s.0.0.1; num_word = s.0.1; father_word = s.1 })
    (λ s. (((s.flags, s.bits), s.num_word), s.father_word))
    (tells_both
    (tells_both (tells_both (tells_id (counts w (k + flags_place))) (tells_le (number_at w (k + flags_place)) 7)) (tells_id (counts w (k + num_place))))
    (tells_id (counts w (k + father_place))))

pub numbers_counted : (w : List ℤ) (k : ℕ) → NumberParts w k → Counted w k
numbers_counted w k s =
    record { flags = same (k + flags_place) s.flags; num = same (k + num_place) s.num_word; father = same (k + father_place) s.father_word }
  where
    same : (j : ℕ) → counts w j ≡ true → get_or w j (pos 0) ≡ pos (number_at w j)
    same j e = (same_word_P (get_or w j (pos 0)) (pos (number_at w j))).0 e

-- ---- an arc

either : (b x y : Bool) → x ≡ true → y ≡ true → choose b x y ≡ true
either true x y p q = p
either false x y p q = q

module _ (w : List ℤ) (k i : ℕ) (e : i ≡ link_place (fields_in w) k) where
  pub arc_test_empty : are_free w i (i + arc_size) ≡ true → arc_test w k ≡ true
  unfolding arc_test
  arc_test_empty h =
      rw (← e, link_test_empty link_slots link_size w i (omega arith) (λ j u. zeros j (omega arith)))
      (either (has_back (fields_in w) k) (link_test link_slots link_size w (i + link_size)) (are_free w (i + link_size) (i + link_size + link_size))
      (link_test_empty link_slots link_size w (i + link_size) (omega arith) second)
      ((tells_are_free w (i + link_size) (i + link_size + link_size)).1 (λ j u. second j (omega arith))))
    where
      zeros : (j : ℕ) → j < arc_size → get_or w (i + j) (pos 0) ≡ pos 0
      zeros j u = (tells_are_free w i (i + arc_size)).0 h j (omega arith)

      second : (j : ℕ) → j < link_size → get_or w (i + link_size + j) (pos 0) ≡ pos 0
      second j u =
          let q : i + link_size + j ≡ i + (link_size + j) = omega arith in
          rw q (zeros (link_size + j) (omega arith))

  pub arc_test_no : link_test link_slots link_size w i ≡ false → arc_test w k ≡ false
  unfolding arc_test
  arc_test_no h = rw (← e, h)

  -- the link back is there exactly if no arc leads back
  abbrev back : Bool
  back = (waits_of (fields_in w)).waits (arc_at (fields_in w) k).to (arc_at (fields_in w) k).from

  has_back_not : {b : Bool} → back ≡ b → has_back (fields_in w) k ≡ not b
  unfolding has_back
  has_back_not f = let a = arc_at (fields_in w) k in swap (eqb (arc_of (fields_in w) a.to a.from) 0) (sym (arc_of_waits (fields_in w) a.to a.from) ∙ f)
    where
      swap : (x : Bool) {y : Bool} → not x ≡ y → x ≡ not y
      swap true e = rw (← e)
      swap false e = rw (← e)

  pub arc_test_back : {b : Bool} → link_test link_slots link_size w i ≡ true → back ≡ false → b ≡ link_test link_slots link_size w (i + link_size) → b ≡ arc_test w k
  unfolding arc_test
  arc_test_back h o q = rw (← e, h, has_back_not o) q

  pub arc_test_free : {b : Bool} → link_test link_slots link_size w i ≡ true → back ≡ true → b ≡ are_free w (i + link_size) (i + link_size + link_size)
      → b ≡ arc_test w k
  unfolding arc_test
  arc_test_free h o q = rw (← e, h, has_back_not o) q
