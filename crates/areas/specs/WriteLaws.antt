-- A store into an area with a run in it is the area with a changed run in it.
--   stored_record     == the words of a process's record: the run with that record replaced
--   stored_taken      == a link's words from a slot on moved down by one: the run with the message of that slot off that link
--   stored_push       == one word past a link's messages: the run with one message more on it
--   stored_count      == the count's word: the run with the count replaced
--   moved_word_next, moved_word_last, moved_word_below, moved_word_past, moved_down_length, moved_down_at   == the words and the length of a list from
--                        which one word is taken out
-- Assumes nothing.
use Rattle.std.specs.Prelude.{ℕ, zero, suc, ◌+◌, ◌-◌, ◌≤◌, ◌<◌, Bool, ◌&&◌, List, [], ◌∷◌, ◌++◌, ◌≡◌, ◌⊎◌, eqb, leb, ltb, length, set, ℤ, pos}
use Rattle.std.proofs.Math.Bool.{true, false}
use Rattle.std.proofs.Math.Path.{refl, sym}
use Rattle.std.proofs.Common.{ap, ap₂, ◌∙◌, inl, inr, arith}
use borrow.Author.Tests.{eqb-true, le-leb, lt-leb, lt-ltb, le-ltb}
use Rattle.std.proofs.Math.ListN.{get_or, get_or-eq_default}
use Rattle.std.proofs.lemmas.List.Edits.{sets}
use Rattle.base.specs.Choice.{choose}
use Rattle.base.specs.ChoiceLaws.{same?, below?, tested, and_left, and_right}
use Rattle.base.specs.Checks.{Same, same, apart, Below, below, beyond, Tested, passed, failed}
use Rattle.tables.specs.Table.{Fields, n_of, m_of, arc_at}
use Rattle.tables.specs.Waits.{waits_of, neighbours}
use Rattle.tables.specs.Layout.{Right}
use Rattle.steps.specs.declared.Message.{Message}
use Rattle.steps.specs.declared.Process.{Process}
use Rattle.checks.specs.Run.{Run}
use Rattle.areas.specs.Places.{count_place, head_size, record_size, link_size, arc_size}
use Rattle.areas.specs.Used.{link_slots}
use Rattle.areas.specs.Used.{record_used}
use Rattle.areas.specs.Area.{area_of, record_place, link_place, link_of, head_word, record_word, code_of, slot_word, link_word, has_back, arc_word, word_of, stored}
use Rattle.areas.specs.Replaced.{put_process, put_link, put_count}
use Rattle.areas.specs.Writes.{record_words, moved_word, moved_down}
use Rattle.areas.specs.Regions.{Place, in_head, in_table, in_record, in_links}
use Rattle.areas.specs.Overlaid.{Outside}
use Rattle.areas.specs.ContainedLaws.{put_process_at, put_process_off, put_link_at, put_link_off}
use Rattle.areas.specs.OverlaidLaws.{words_to_length, words_to_at, overlaid_set, overlaid_sets}
use Rattle.areas.specs.ArcLaws.{link_of_arc, link_of_back}
use Rattle.areas.specs.CodeLaws.{link_word_slot, link_word_free, slot_word_past}
use Rattle.areas.specs.WordLaws.{word_of_head, word_of_field, word_of_record, word_of_arc, arc_word_forth, arc_word_back, arc_word_free, word_of_link, place?}
use Rattle.areas.specs.StoredLaws.{stored_overlaid, stored_length, stored_word, stored_past, record_place_fits, link_of_fits, stored_link_word, stored_of}

-- a run of stores, from the words before and after
stored_sets : (t : Fields) (r q : Run) (w : List ℤ) (i : ℕ) (vs : List ℤ) → i + length vs ≤ area_of t
    → ((j : ℕ) → j < length vs → word_of t q (i + j) ≡ get_or vs j (pos 0)) → ((k : ℕ) → k < area_of t → Outside i (length vs) k → word_of t q k ≡ word_of t r k)
    → sets (stored t r w) i vs ≡ stored t q w
stored_sets t r q w i vs u at off =
    ap (λ (l : List ℤ). sets l i vs) (stored_overlaid t r w)
    ∙ overlaid_sets vs (area_of t) (word_of t r) (word_of t q) w i u at off
    ∙ sym (stored_overlaid t q w)

-- one store
stored_set : (t : Fields) (r q : Run) (w : List ℤ) (i : ℕ) (v : ℤ) → i < area_of t → word_of t q i ≡ v
    → ((k : ℕ) → k < area_of t → (k ≡ i → ⊥) → word_of t q k ≡ word_of t r k) → set (stored t r w) i v ≡ stored t q w
stored_set t r q w i v u at off =
    ap (λ (l : List ℤ). set l i v) (stored_overlaid t r w)
    ∙ overlaid_set (area_of t) (word_of t r) (word_of t q) w i v u at off
    ∙ sym (stored_overlaid t q w)

-- ---- the words of two runs, kind by kind

-- two runs whose heading, records and links agree at a word have the same word there
record Agree (t : Fields) (q r : Run) (k : ℕ) : Type 0 where
  heads : k < head_size → head_word q k ≡ head_word r k
  records : (p j : ℕ) → 1 ≤ p → p ≤ n_of t → j < record_size → k ≡ record_place t p + j → record_word (q.process p) j ≡ record_word (r.process p) j
  links : (a j : ℕ) → 1 ≤ a → a ≤ m_of t → j < arc_size → k ≡ link_place t a + j → arc_word t q a j ≡ arc_word t r a j

word_of_agree : (t : Fields) (q r : Run) (k : ℕ) → k < area_of t → Agree t q r k → word_of t q k ≡ word_of t r k
word_of_agree t q r k u g = at (place? t k u)
  where
    at : Place t k → word_of t q k ≡ word_of t r k
    at (in_head h) = word_of_head t q k h ∙ g.heads h ∙ sym (word_of_head t r k h)
    at (in_table j h e) = rw e (word_of_field t q j h ∙ sym (word_of_field t r j h))
    at (in_record p j l m h e) = rw e (word_of_record t q p j l m h ∙ g.records p j l m h e ∙ sym (word_of_record t r p j l m h))
    at (in_links a j l m h e) = rw e (word_of_arc t q a j l h ∙ g.links a j l m h e ∙ sym (word_of_arc t r a j l h))

-- the heading holds the start, the count and the edition alone
head_word_same : (q r : Run) → q.start ≡ r.start → q.count ≡ r.count → q.edition ≡ r.edition → (k : ℕ) → head_word q k ≡ head_word r k
head_word_same q r s c e zero = refl
head_word_same q r s c e (suc zero) = ap pos s
head_word_same q r s c e (suc (suc zero)) = ap pos c
head_word_same q r s c e (suc (suc (suc zero))) = ap pos e
head_word_same q r s c e (suc (suc (suc (suc k)))) = refl

-- ---- the count

head_word_count : (r : Run) (c k : ℕ) → (k ≡ count_place → ⊥) → head_word (put_count r c) k ≡ head_word r k
unfolding put_count
head_word_count r c zero n = refl
head_word_count r c (suc zero) n = refl
head_word_count r c (suc (suc zero)) n = absurd (n refl)
head_word_count r c (suc (suc (suc zero))) n = refl
head_word_count r c (suc (suc (suc (suc k)))) n = refl

pub stored_count : (t : Fields) (r : Run) (w : List ℤ) (c : ℕ) → set (stored t r w) count_place (pos c) ≡ stored t (put_count r c) w
unfolding put_count arc_word
stored_count t r w c =
    stored_set t r (put_count r c) w count_place (pos c) (omega arith) (word_of_head t (put_count r c) count_place (omega arith))
    (λ k u n. word_of_agree t (put_count r c) r k u
    (record { heads = λ h. head_word_count r c k n; records = λ p j l m h e. refl; links = λ a j l m h e. refl }))

-- ---- a record

head_word_process : (r : Run) (p : ℕ) (x : Process) (k : ℕ) → head_word (put_process r p x) k ≡ head_word r k
unfolding put_process
head_word_process r p x k = head_word_same (put_process r p x) r refl refl refl k

-- the other words of a record are kept free and hold 0
record_word_free : (x : Process) (j : ℕ) → record_used ≤ j → record_word x j ≡ pos 0
record_word_free x zero h = absurd (omega arith)
record_word_free x (suc zero) h = absurd (omega arith)
record_word_free x (suc (suc zero)) h = absurd (omega arith)
record_word_free x (suc (suc (suc zero))) h = absurd (omega arith)
record_word_free x (suc (suc (suc (suc zero)))) h = absurd (omega arith)
record_word_free x (suc (suc (suc (suc (suc j))))) h = refl

arc_word_process : (t : Fields) (r : Run) (p : ℕ) (x : Process) (a j : ℕ) → arc_word t (put_process r p x) a j ≡ arc_word t r a j
unfolding put_process arc_word
arc_word_process t r p x a j = refl

pub stored_record : (t : Fields) (r : Run) (w : List ℤ) (p : ℕ) (x : Process) → 1 ≤ p → p ≤ n_of t
    → sets (stored t r w) (record_place t p) (record_words x) ≡ stored t (put_process r p x) w
unfolding record_words
stored_record t r w p x l u =
    stored_sets t r (put_process r p x) w (record_place t p) (record_words x) (omega (arith, used, record_place_fits t p l u))
    (λ j h. here j (omega (arith, used)))
    (λ k v o. word_of_agree t (put_process r p x) r k v
    (record
    { heads = λ h. head_word_process r p x k; records = λ q j a b h e. other k o q j e (same? q p); links = λ a j b c h e. arc_word_process t r p x a j }))
  where
    used : length (record_words x) ≡ record_used
    used = words_to_length record_used (record_word x)

    here : (j : ℕ) → j < record_used → word_of t (put_process r p x) (record_place t p + j) ≡ get_or (record_words x) j (pos 0)
    here j h =
        word_of_record t (put_process r p x) p j l u (omega arith)
        ∙ ap (λ (y : Process). record_word y j) (put_process_at r p x)
        ∙ sym (words_to_at record_used (record_word x) j (pos 0) h)

    other : (k : ℕ) → Outside (record_place t p) (length (record_words x)) k → (q j : ℕ) → k ≡ record_place t q + j → Same q p
        → record_word ((put_process r p x).process q) j ≡ record_word (r.process q) j
    other k (inl o) q j e (same s _) =
        let f : k ≡ record_place t p + j = rw s at e in
        absurd (omega arith)
    other k (inr o) q j e (same s _) =
        let f : k ≡ record_place t p + j = rw s at e in
        record_word_free ((put_process r p x).process q) j (omega (arith, used)) ∙ sym (record_word_free (r.process q) j (omega (arith, used)))
    other k o q j e (apart n _) = ap (λ (y : Process). record_word y j) (put_process_off r p x q n)

-- ---- a link

head_word_link : (r : Run) (a b : ℕ) (ms : List Message) (k : ℕ) → head_word (put_link r a b ms) k ≡ head_word r k
unfolding put_link
head_word_link r a b ms k = head_word_same (put_link r a b ms) r refl refl refl k

record_word_link : (r : Run) (a b : ℕ) (ms : List Message) (p j : ℕ) → record_word ((put_link r a b ms).process p) j ≡ record_word (r.process p) j
unfolding put_link
record_word_link r a b ms p j = refl

-- a word of the link from x to y stays, where the words of the link from a to b that differ are not meant
link_word_same : (r : Run) (a b : ℕ) (ms : List Message) (x y i : ℕ) → ((x ≡ a) → (y ≡ b) → link_word ms i ≡ link_word (r.link a b) i)
    → link_word ((put_link r a b ms).link x y) i ≡ link_word (r.link x y) i
link_word_same r a b ms x y i h = at (tested (eqb x a && eqb y b))
  where
    at : Tested (eqb x a && eqb y b) → link_word ((put_link r a b ms).link x y) i ≡ link_word (r.link x y) i
    at (passed e) =
        let p : x ≡ a = eqb-true x a (and_left (eqb x a) (eqb y b) e) in
        let q : y ≡ b = eqb-true y b (and_right (eqb x a) (eqb y b) e) in
        ap₂ (λ (u v : ℕ). link_word ((put_link r a b ms).link u v) i) p q
        ∙ ap (λ (l : List Message). link_word l i) (put_link_at r a b ms)
        ∙ h p q
        ∙ sym (ap₂ (λ (u v : ℕ). link_word (r.link u v) i) p q)
    at (failed e) = ap (λ (l : List Message). link_word l i) (put_link_off r a b ms x y e)

module _ (t : Fields) (s : Right t) (r : Run) (a b : ℕ) (ms : List Message) where
  -- the words of an arc's links, but for those of the link from a to b that differ
  arc_word_link : (k c j : ℕ) → 1 ≤ c → c ≤ m_of t → j < arc_size → k ≡ link_place t c + j
      → ((i : ℕ) → i < link_size → k ≡ link_of t a b + i → link_word ms i ≡ link_word (r.link a b) i) → arc_word t (put_link r a b ms) c j ≡ arc_word t r c j
  arc_word_link k c j l u h e f = at (below? j link_size) (tested (has_back t c))
    where
      back : has_back t c ≡ true → link_size ≤ j → (arc_at t c).to ≡ a → (arc_at t c).from ≡ b → link_word ms (j - link_size) ≡ link_word (r.link a b) (j - link_size)
      back y v p q =
          let o : link_of t a b ≡ link_place t c + link_size = rw (p, q) at (link_of_back t s c (l, u) y) in
          f (j - link_size) (omega arith) (omega arith)

      at : Below j link_size → Tested (has_back t c) → arc_word t (put_link r a b ms) c j ≡ arc_word t r c j
      at (below v _) _ =
          arc_word_forth t (put_link r a b ms) c j v
          ∙ link_word_same r a b ms (arc_at t c).from (arc_at t c).to j
          (λ p q. f j v (e ∙ ap (λ (n : ℕ). n + j) (sym (rw (p, q) at (link_of_arc t s c (l, u))))))
          ∙ sym (arc_word_forth t r c j v)
      at (beyond v _) (failed n) = arc_word_free t (put_link r a b ms) c j v n ∙ sym (arc_word_free t r c j v n)
      at (beyond v _) (passed y) =
          let g : j ≡ link_size + (j - link_size) = omega arith in
          rw g
          (arc_word_back t (put_link r a b ms) c (j - link_size) y
          ∙ link_word_same r a b ms (arc_at t c).to (arc_at t c).from (j - link_size) (back y v)
          ∙ sym (arc_word_back t r c (j - link_size) y))

  -- the words of the link from a to b that differ are all that changes
  word_of_put_link : (k : ℕ) → k < area_of t → ((i : ℕ) → i < link_size → k ≡ link_of t a b + i → link_word ms i ≡ link_word (r.link a b) i)
      → word_of t (put_link r a b ms) k ≡ word_of t r k
  word_of_put_link k u f =
      word_of_agree t (put_link r a b ms) r k u
      (record {
        heads = λ h. head_word_link r a b ms k;
        records = λ p j l m h e. record_word_link r a b ms p j;
        links = λ c j l m h e. arc_word_link k c j l m h e f;
      })

-- ---- one message less

-- the words of a list from which one word is taken out
module _ (w : List ℤ) (i e : ℕ) where
  pub moved_word_next : (k : ℕ) → i ≤ k → k + 1 < e → moved_word w i e k ≡ get_or w (k + 1) (pos 0)
  unfolding moved_word
  moved_word_next k l u = rw (le-leb i k l, lt-ltb k e (omega arith), lt-ltb (k + 1) e u)

  pub moved_word_last : (k : ℕ) → i ≤ k → k < e → e ≤ k + 1 → moved_word w i e k ≡ pos 0
  unfolding moved_word
  moved_word_last k l u v = rw (le-leb i k l, lt-ltb k e u, le-ltb (k + 1) e v)

  pub moved_word_below : (k : ℕ) → k < i → moved_word w i e k ≡ get_or w k (pos 0)
  unfolding moved_word
  moved_word_below k u = rw (lt-leb i k u)

  pub moved_word_past : (k : ℕ) → e ≤ k → moved_word w i e k ≡ get_or w k (pos 0)
  unfolding moved_word
  moved_word_past k u = rw (le-ltb k e u) (at (leb i k))
    where
      at : (b : Bool) → choose (b && false) (choose (ltb (k + 1) e) (get_or w (k + 1) (pos 0)) (pos 0)) (get_or w k (pos 0)) ≡ get_or w k (pos 0)
      at true = refl
      at false = refl

  pub moved_down_length : length (moved_down w i e) ≡ length w
  unfolding moved_down
  moved_down_length = words_to_length (length w) (moved_word w i e)

  pub moved_down_at : e ≤ length w → (k : ℕ) → get_or (moved_down w i e) k (pos 0) ≡ moved_word w i e k
  unfolding moved_down
  moved_down_at l k = at (below? k (length w))
    where
      at : Below k (length w) → get_or (moved_down w i e) k (pos 0) ≡ moved_word w i e k
      at (below u _) = words_to_at (length w) (moved_word w i e) k (pos 0) u
      at (beyond u _) =
          get_or-eq_default (moved_down w i e) (pos 0) (omega (arith, moved_down_length))
          ∙ sym (moved_word_past k (omega arith) ∙ get_or-eq_default w (pos 0) u)

-- the message of slot p taken out: those before it stay, and those behind it stand one slot further on before
pub stored_taken : (t : Fields) → Right t → (r : Run) (w : List ℤ) (a b p : ℕ) (rest : List Message) → neighbours (waits_of t) a b ≡ true
    → area_of t ≤ length w → length (r.link a b) ≤ link_slots → p < link_slots → ((j : ℕ) → j < p → slot_word rest j ≡ slot_word (r.link a b) j)
    → ((j : ℕ) → p ≤ j → slot_word rest j ≡ slot_word (r.link a b) (suc j))
    → moved_down (stored t r w) (link_of t a b + p) (link_of t a b + link_slots) ≡ stored t (put_link r a b rest) w
stored_taken t s r w a b p rest n long few inside stay shift =
    stored_of t q w (moved_down old i e) (pos 0) long (moved_down_length old i e ∙ stored_length t r w long)
    (λ k u. moved_down_at old i e within k ∙ low k u (below? k i) (below? k e))
    (λ k u. moved_down_at old i e within k ∙ moved_word_past old i e k (omega (arith, link_of_fits t a b n)) ∙ stored_past t r w k (pos 0) u)
  where
    q : Run
    q = put_link r a b rest

    old : List ℤ
    old = stored t r w

    i : ℕ
    i = link_of t a b + p

    e : ℕ
    e = link_of t a b + link_slots

    within : e ≤ length old
    within = omega (arith, link_of_fits t a b n, stored_length t r w long)

    -- a word that is none of the slots from p on
    other : (k : ℕ) → k < area_of t → (k < i) ⊎ (e ≤ k) → get_or old k (pos 0) ≡ word_of t q k
    other k u o = stored_word t r w k (pos 0) u ∙ sym (word_of_put_link t s r a b rest k u (λ j v f. free j f o))
      where
        free : (j : ℕ) → k ≡ link_of t a b + j → (k < i) ⊎ (e ≤ k) → link_word rest j ≡ link_word (r.link a b) j
        free j f (inl v) = link_word_slot rest j (omega arith) ∙ stay j (omega arith) ∙ sym (link_word_slot (r.link a b) j (omega arith))
        free j f (inr v) = link_word_free rest j (omega arith) ∙ sym (link_word_free (r.link a b) j (omega arith))

    -- the slot j
    slot : (j : ℕ) → p ≤ j → j < link_slots → word_of t q (link_of t a b + j) ≡ slot_word (r.link a b) (suc j)
    slot j l h =
        word_of_link t q a b j n (omega arith)
        ∙ ap (λ (l : List Message). link_word l j) (put_link_at r a b rest)
        ∙ link_word_slot rest j h
        ∙ shift j l

    next : (j : ℕ) → p ≤ j → j < link_slots → Below (link_of t a b + j + 1) e → moved_word old i e (link_of t a b + j) ≡ slot_word (r.link a b) (suc j)
    next j l h (below u _) =
        let f : link_of t a b + j + 1 ≡ link_of t a b + suc j = omega arith in
        moved_word_next old i e (link_of t a b + j) (omega arith) u
        ∙ rw f (stored_link_word t r w a b (suc j) (pos 0) n (omega arith) ∙ link_word_slot (r.link a b) (suc j) (omega arith))
    next j l h (beyond u _) =
        moved_word_last old i e (link_of t a b + j) (omega arith) (omega arith) u ∙ sym (slot_word_past (r.link a b) (suc j) (omega arith))

    low : (k : ℕ) → k < area_of t → Below k i → Below k e → moved_word old i e k ≡ word_of t q k
    low k u (below v _) _ = moved_word_below old i e k v ∙ other k u (inl v)
    low k u (beyond v _) (beyond x _) = moved_word_past old i e k x ∙ other k u (inr x)
    low k u (beyond v _) (below x _) =
        let j : ℕ = k - link_of t a b in
        let f : k ≡ link_of t a b + j = omega arith in
        rw f (next j (omega arith) (omega arith) (below? (link_of t a b + j + 1) e) ∙ sym (slot j (omega arith) (omega arith)))

-- ---- one message more

slot_word_push : (ms : List Message) (m : Message) → slot_word (ms ++ (m ∷ [])) (length ms) ≡ code_of m
unfolding slot_word
slot_word_push [] m = refl
slot_word_push (x ∷ ms) m = slot_word_push ms m

slot_word_other : (ms : List Message) (m : Message) (j : ℕ) → (j ≡ length ms → ⊥) → slot_word (ms ++ (m ∷ [])) j ≡ slot_word ms j
unfolding slot_word
slot_word_other [] m zero n = absurd (n refl)
slot_word_other [] m (suc j) n = refl
slot_word_other (x ∷ ms) m zero n = refl
slot_word_other (x ∷ ms) m (suc j) n = slot_word_other ms m j (λ e. n (ap suc e))

link_word_other : (ms : List Message) (m : Message) (j : ℕ) → (j ≡ length ms → ⊥) → link_word (ms ++ (m ∷ [])) j ≡ link_word ms j
unfolding link_word
link_word_other ms m j n = rw (slot_word_other ms m j n)

pub stored_push : (t : Fields) → Right t → (r : Run) (w : List ℤ) (a b : ℕ) (m : Message) → neighbours (waits_of t) a b ≡ true
    → length (r.link a b) ≤ link_slots - 1
    → set (stored t r w) (link_of t a b + length (r.link a b)) (code_of m) ≡ stored t (put_link r a b (r.link a b ++ (m ∷ []))) w
stored_push t s r w a b m n h =
    stored_set t r (put_link r a b more) w (link_of t a b + length (r.link a b)) (code_of m) (omega (arith, link_of_fits t a b n)) here
    (λ k u o. word_of_put_link t s r a b more k u
    (λ i v e. link_word_other (r.link a b) m i (λ q. o (e ∙ ap (λ (j : ℕ). link_of t a b + j) q))))
  where
    more : List Message
    more = r.link a b ++ (m ∷ [])

    here : word_of t (put_link r a b more) (link_of t a b + length (r.link a b)) ≡ code_of m
    here =
        word_of_link t (put_link r a b more) a b (length (r.link a b)) n (omega arith)
        ∙ ap (λ (l : List Message). link_word l (length (r.link a b))) (put_link_at r a b more)
        ∙ link_word_slot more (length (r.link a b)) (omega arith)
        ∙ slot_word_push (r.link a b) m
