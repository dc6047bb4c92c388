-- The run area in words (01, "Run and links"; docs/LAYOUT.md), as definitions that code and promises share.
--   area_of t             == the words that start needs for a table; field_total_of t, its fields
--   word_of t r k         == word k of the area that holds the table with fields t and the run r
--   stored t r w         == the area w with that table and run in it: "Surplus words are not touched."
--   record_place, link_place, link_of   == where a record, an arc's links and the link of a pair begin
--   fields_in w           == the fields of the copied table
--   run_in w              == the run that an area holds
--   keeping w r          == the area w with the run r in the place of its own
--   area_right w          == the area is *well formed* (01's term)
-- Assumes nothing.
use Rattle.std.specs.Prelude.{ℕ, zero, suc, ◌+◌, ◌-◌, ◌*◌, ◌/◌, ◌%◌}
use mathlib.Core.{Bool.Bool, Bool.◌&&◌, List.List, List.[], List.◌∷◌, List.◌++◌}
use lib.{Dec.eqb, Dec.leb, Dec.ltb, ListN.length, ListN.get_or, ListN.drop, IntN.ℤ, IntN.pos, IntN.◌+ℤ◌, IntN.◌-ℤ◌, IntN.nat_abs, Signed.le_z}
use Rattle.base.specs.{Choice.choose, Sums.all_to}
use Rattle.tables.specs.Table.{Fields, n_of, m_of, field_total, is_process, arc_at, says_wait}
use Rattle.tables.specs.{Reading.sizes_right, Reading.fields_number, Waits.waits_of, Waits.neighbours}
use Rattle.steps.specs.declared.{Message.Message, Message.TheVariants.Suc, Message.TheVariants.Pre, Message.TheVariants.Ack, Process.Process}
use Rattle.steps.specs.Step.{idle}
use Rattle.checks.specs.Run.{Run, most_waiting, well_formed}
use Rattle.areas.specs.Places.{start_place, count_place, edition_place, head_size, field_place, flags_place, cs_place, num_place, father_place}
use Rattle.areas.specs.Places.{second_place, record_size, count_zero, count_size, record_start, link_size, arc_size, link_start, area_length}

-- ---- where things stand

-- how many fields a table has
abbrev pub field_total_of : Fields → ℕ
field_total_of t = field_total (n_of t) (m_of t)

-- the words that start needs for a table
abbrev pub area_of : Fields → ℕ
area_of t = area_length (n_of t) (m_of t)

-- the record of process p
unfoldable pub record_place : Fields → ℕ → ℕ
record_place t p = record_start (n_of t) (m_of t) p

-- the two links of arc k: from its from to its to, and back
unfoldable pub link_place : Fields → ℕ → ℕ
link_place t k = link_start (n_of t) (m_of t) k

-- the arc from a to b, 0 if there is none: the lowest number of 1 to m with these ends
unfoldable pub arc_in : Fields → ℕ → ℕ → ℕ → ℕ
arc_in t a b zero = 0
arc_in t a b (suc m) =
    choose (eqb (arc_in t a b m) 0)
    (choose (says_wait t a b (suc m)) (suc m) 0)
    (arc_in t a b m)

unfoldable pub arc_of : Fields → ℕ → ℕ → ℕ
arc_of t a b = arc_in t a b (m_of t)

-- the first word of the link from a to b: the first link of the arc from a to b if there is one, else the second of the arc from b to a
unfoldable pub link_of : Fields → ℕ → ℕ → ℕ
link_of t a b = choose (eqb (arc_of t a b) 0) (link_place t (arc_of t b a) + link_size) (link_place t (arc_of t a b))

-- ---- what the words hold

-- the word that says which check an area belongs to. 1 was the knot check before second sums (02, N3): such an area has counted none, and gets 21
abbrev pub knot_check : ℤ
knot_check = pos 2

-- the words before the table: which check, the start, the accepted deliveries, the edition; the others are kept free and hold 0
abbrev pub head_word : Run → ℕ → ℤ
head_word r zero = knot_check
head_word r (suc zero) = pos r.start
head_word r (suc (suc zero)) = pos r.count
head_word r (suc (suc (suc zero))) = pos r.edition
head_word r (suc (suc (suc (suc k)))) = pos 0

-- the three flags in one word
unfoldable pub flags_of : Process → ℕ
flags_of x = x.succeeding + 2 * x.preceding + 4 * x.subordinate

-- a record: flags, cs, num, father, the second sum (02, N3); the other word is kept free and holds 0
abbrev pub record_word : Process → ℕ → ℤ
record_word x zero = pos (flags_of x)
record_word x (suc zero) = x.cs
record_word x (suc (suc zero)) = pos x.num
record_word x (suc (suc (suc zero))) = pos x.father
record_word x (suc (suc (suc (suc zero)))) = x.second
record_word x (suc (suc (suc (suc (suc k))))) = pos 0

-- a count, or a second count, as a number
abbrev pub lifted : ℤ → ℕ
lifted z = nat_abs (pos count_zero +ℤ z)

-- a message in one word: 1 a suc probe, 2 a pre probe, 256 + c + 512 (256 + d) an acknowledgement with count c and second count d
unfoldable pub code_of : Message → ℤ
code_of Suc = pos 1
code_of Pre = pos 2
code_of (Ack c) = pos (lifted c.count + count_size * lifted c.second)

-- a link: a word for each message, oldest first, 0 past them; the words behind the slots are kept free and hold 0
unfoldable pub slot_word : List Message → ℕ → ℤ
slot_word [] j = pos 0
slot_word (m ∷ ms) zero = code_of m
slot_word (m ∷ ms) (suc j) = slot_word ms j

unfoldable pub link_word : List Message → ℕ → ℤ
link_word ms j = choose (ltb j most_waiting) (slot_word ms j) (pos 0)

-- the arc k has the link back from its to to its from, unless that link stands with another arc or is the first link itself (a loop)
unfoldable pub has_back : Fields → ℕ → Bool
has_back t k = eqb (arc_of t (arc_at t k).to (arc_at t k).from) 0

-- the words of arc k's links
unfoldable pub arc_word : Fields → Run → ℕ → ℕ → ℤ
arc_word t r k j =
    choose (ltb j link_size) (link_word (r.link (arc_at t k).from (arc_at t k).to) j)
    (choose (has_back t k) (link_word (r.link (arc_at t k).to (arc_at t k).from) (j - link_size)) (pos 0))

-- word k of an area
unfoldable pub word_of : Fields → Run → ℕ → ℤ
word_of t r k =
    choose (ltb k head_size) (head_word r k)
    (choose (ltb k (record_place t 1)) (pos (t (k - head_size)))
    (choose (ltb k (link_place t 1)) (record_word (r.process ((k - record_place t 1) / record_size + 1)) ((k - record_place t 1) % record_size))
    (arc_word t r ((k - link_place t 1) / arc_size + 1) ((k - link_place t 1) % arc_size))))

-- the words f 0 to f (n − 1)
unfoldable pub words_to : ℕ → (ℕ → ℤ) → List ℤ
words_to zero f = []
words_to (suc n) f = f zero ∷ words_to n (λ k. f (suc k))

-- "copies into it all that later calls use. Surplus words are not touched."
unfoldable pub stored : Fields → Run → List ℤ → List ℤ
stored t r w = words_to (area_of t) (word_of t r) ++ drop (area_of t) w

-- ---- what is read from an area

-- a word as a number
abbrev pub number_at : List ℤ → ℕ → ℕ
number_at w k = nat_abs (get_or w k (pos 0))

-- the fields of the copied table: 0 past its last, by its own N and M
unfoldable pub fields_in : List ℤ → Fields
fields_in w j = choose (ltb j (field_total (number_at w (field_place 0)) (number_at w (field_place 1)))) (number_at w (field_place j)) 0

-- the record at word k: the three flags of one word, then cs, num, father and the second sum
abbrev pub record_at : List ℤ → ℕ → Process
record_at w k =
    record {
      succeeding = number_at w (k + flags_place) % 2;
      preceding = number_at w (k + flags_place) / 2 % 2;
      subordinate = number_at w (k + flags_place) / 4 % 2;
      cs = get_or w (k + cs_place) (pos 0);
      num = number_at w (k + num_place);
      father = number_at w (k + father_place);
      second = get_or w (k + second_place) (pos 0);
    }

-- the count that stands as this number
abbrev pub lowered : ℕ → ℤ
lowered k = pos k -ℤ pos count_zero

-- the message of a word that is not 0
unfoldable pub message_of : ℤ → Message
message_of z =
    let k : ℕ = nat_abs z in
    choose (eqb k 1) Suc (choose (eqb k 2) Pre (Ack (record { count = lowered (k % count_size); second = lowered (k / count_size) })))

-- the messages of up to k words from word i on, up to the first 0
unfoldable pub messages_at : List ℤ → ℕ → ℕ → List Message
messages_at w i zero = []
messages_at w i (suc k) = choose (eqb (number_at w i) 0) [] (message_of (get_or w i (pos 0)) ∷ messages_at w (suc i) k)

-- the run that an area holds
unfoldable pub run_in : List ℤ → Run
run_in w =
    record {
      waits = waits_of (fields_in w);
      start = number_at w start_place;
      edition = number_at w edition_place;
      count = number_at w count_place;
      process = λ p. choose (is_process (n_of (fields_in w)) p) (record_at w (record_place (fields_in w) p)) idle;
      link = λ a b. choose (neighbours (waits_of (fields_in w)) a b) (messages_at w (link_of (fields_in w) a b) most_waiting) [];
    }

-- the area with another run of the same table in it
abbrev pub keeping : List ℤ → Run → List ℤ
keeping w r = stored (fields_in w) r w

-- ---- well formed

-- two words are the same: neither is above the other
unfoldable pub same_word : ℤ → ℤ → Bool
same_word a b = le_z a b && le_z b a

-- the words 0 to n − 1 of an area are those of f
unfoldable pub holds_words : List ℤ → (ℕ → ℤ) → ℕ → Bool
holds_words w f n = all_to n (λ k. same_word (get_or w (k - 1) (pos 0)) (f (k - 1)))

-- "It is *well formed* if it has the words that start needs for its N and M, N and M are in range, the copied table meets the section above,
-- every value is in the range just given, the start is 1 to N, every father is 0 or a neighbour, and every link holds at most 4 messages
-- of the three kinds with counts in range": the sizes, the length, the table, the values of the run, its edition among them ("In an area it gives
-- 21", 02, N4), and no word but those of the layout
unfoldable pub area_right : List ℤ → Bool
area_right w =
    leb (field_place 2) (length w) && sizes_right (fields_in w) && leb (area_of (fields_in w)) (length w) &&
    eqb (fields_number (fields_in w)) 0 && well_formed (run_in w) &&
    holds_words w (word_of (fields_in w) (run_in w)) (area_of (fields_in w))
