-- How the code reads and changes the sets and the counts.
--   up_same, up_turned, down_same, down_turned   == b's count put anew: the set 0 stands, or b is put into it, or taken out of it
--   up_asks, down_asks       == what putting b into the set 0, and taking it out, asks
--   up_stays, up_turns, up_word, down_stays, down_turns, down_word   == the same by the count that is read behind it
--   group_read, group_put    == the count of a group, as it is read and put
--   mark_none, mark_asks, mark_asks_group, mark_is   == a link that was marked; what marking another asks, and what it leaves
--   unmark_asks, strike_asks, unmark_asks_group, unmark_is   == the same where a link is no longer marked
--   group_next, groups_sum   == one group more, of those that stand behind the counts; and all of them
--   turns_marked             == what a change leaves holds some marks
--   cleared                  == an array of zeros
-- Assumes nothing.
use Rattle.std.proofs.Common.{ℕ, ◌+◌, ◌-◌, ◌*◌, ◌^◌, ◌≤◌, ◌<◌, Bool, true, false, List, ◌≡◌, sym, ap, ◌∙◌, refl, arith, eq-eqb, ne_eqb}
use Rattle.std.proofs.Common.{length, get_or, set, replicate, [], ◌∷◌, suc, length-take, length-drop, length-set, get_or-set_same, get_or-take, get_or-drop, take, drop}
use Rattle.std.proofs.lemmas.List.{length-replicate, get_or-replicate}
use Rattle.std.specs.Prelude.{sum, fold}
use Rattle.tables.specs.Table.{most_processes, IsProcess}
use Rattle.sets.specs.Sets.{sets_size, word_digits, digit_of, word, is_in, added_to, struck_from}
use Rattle.sets.specs.SetLaws.{is_in_is}
use Rattle.marks.specs.Marks.{memory_size, group_size, groups, count_at, group_at, group_of, held_to, Marks}
use Rattle.marks.specs.Changes.{count_of, counted_up, counted_down, turned, group_count, put_group, Marked, MarkedAt, Turns}
use Rattle.marks.specs.MarkLaws.{marks_some, up_fits, down_fits, counted_up_is, counted_down_is, added_word, struck_word, turned_same}
use Rattle.marks.specs.GroupLaws.{marks_cong, marks_cleared, stand_up, group_few, group_some, marks_added, marks_struck, groups_first, groups_next}

pub cleared : Marks (λ a b. false) (replicate memory_size 0)
cleared = marks_cleared (length-replicate {A = ℕ} memory_size 0) (λ i u. get_or-replicate memory_size i 0 0 u)

-- what a change leaves holds some marks
pub turns_marked : {l k : List ℕ} {f : (ℕ → ℕ → Bool) → ℕ → ℕ → Bool} → Marked l → Turns l f k → Marked k
turns_marked {f = f} h t = (f h.0, t h.0 h.1)

-- ---- a group

module _ (l : List ℕ) (b : ℕ) {g i : ℕ} (e : g ≡ group_of b) (f : i ≡ group_at g) where
  place : i ≡ group_at (group_of b)
  place = f ∙ ap group_at e

  pub group_read : get_or l i 0 ≡ group_count l b
  group_read = ap (λ (x : ℕ). get_or l x 0) place

  pub group_put : (op : ℕ → ℕ) → set l i (op (get_or l i 0)) ≡ put_group l b (op (group_count l b))
  group_put op = ap (λ (x : ℕ). set l x (op (get_or l x 0))) place

-- the counts of the groups are the last of the array
abbrev counts : List ℕ → List ℕ
counts l = take groups (drop (group_at 0) l)

pub groups_long : {l : List ℕ} → Marked l → length (counts l) ≡ groups
groups_long h = simp (length-take, length-drop) (omega (arith, h.1.rows.long))

pub group_next : {l k : List ℕ} → l ≡ k → {mark : ℕ → ℕ → Bool} → Marks mark k → (g : ℕ) → g < length (counts l)
    → held_to mark (group_size * g) + get_or (counts l) g 0 ≡ held_to mark (group_size * (g + 1))
group_next {l} {k} e {mark} h g u =
    let marked : Marked l = (mark, rw e h) in
    let w : g < groups = omega (arith, groups_long marked, u) in
    let part : get_or (counts l) g 0 ≡ get_or l (group_at g) 0 = get_or-take groups (drop (group_at 0) l) g 0 w
    ∙ get_or-drop (group_at 0) l g 0 in
    let there : get_or l (group_at g) 0 ≡ get_or k (group_at g) 0 = ap (λ (x : List ℕ). get_or x (group_at g) 0) e in
    omega (arith, part, there, groups_next h g w refl)

-- added one after the other to where a row begins, the steps of the row lead to where it ends
steps_sum : (c : List ℕ) (h : ℕ → ℕ) (a : ℕ) → a ≡ h 0 → ((g : ℕ) → g < length c → h g + get_or c g 0 ≡ h (suc g)) → fold (λ b x. b + x) a c ≡ h (length c)
steps_sum [] h a f e = f
steps_sum (x ∷ c) h a f e =
    let first : h 0 + x ≡ h 1 = e 0 (omega arith) in
    steps_sum c (λ g. h (suc g)) (a + x) (omega (arith, first, f)) (λ g u. e (suc g) (omega (arith, u)))

-- the counts of all groups are the links with a message
pub groups_sum : {l k : List ℕ} → l ≡ k → {mark : ℕ → ℕ → Bool} → Marks mark k → sum (counts l) ≡ held_to mark most_processes
groups_sum {l} {k} e {mark} h =
    let marked : Marked l = (mark, rw e h) in
    let to : ℕ → ℕ = λ g. held_to mark (group_size * g) in
    let next : (g : ℕ) → g < length (counts l) → to g + get_or (counts l) g 0 ≡ to (suc g) = λ g u. group_next e h g u ∙ ap to (omega arith) in
    let long : group_size * length (counts l) ≡ most_processes = omega (arith, groups_long marked) in
    steps_sum (counts l) to 0 (sym (groups_first h)) next ∙ ap (held_to mark) long

-- ---- a count

module _ (l : List ℕ) (b : ℕ) {i : ℕ} (e : i ≡ count_at b) where
  pub up_same : (get_or l i 0 ≡ 0 → ⊥) → set l i (get_or l i 0 + 1) ≡ counted_up l b
  unfolding counted_up
  up_same h = rw e (rw (ne_eqb (count_of l b) 0 (rw e at h)))

  pub up_turned : get_or l i 0 ≡ 0 → {k : List ℕ} → k ≡ added_to (set l i (get_or l i 0 + 1)) 0 b → k ≡ counted_up l b
  unfolding counted_up
  up_turned h f = f ∙ rw e (rw (eq-eqb (count_of l b) 0 (rw e at h)))

  pub down_same : (get_or l i 0 - 1 ≡ 0 → ⊥) → set l i (get_or l i 0 - 1) ≡ counted_down l b
  unfolding counted_down
  down_same h = rw e (rw (ne_eqb (count_of l b - 1) 0 (rw e at h)))

  pub down_turned : get_or l i 0 - 1 ≡ 0 → {k : List ℕ} → k ≡ struck_from (set l i (get_or l i 0 - 1)) 0 b → k ≡ counted_down l b
  unfolding counted_down
  down_turned h f = f ∙ rw e (rw (eq-eqb (count_of l b - 1) 0 (rw e at h)))

  pub up_asks : Marked l → IsProcess most_processes b → get_or l i 0 ≡ 0 → {k : List ℕ} → k ≡ set l i (get_or l i 0 + 1)
      → (sets_size ≤ length k) × ((0 ≤ most_processes) × (IsProcess most_processes b × (word k 0 b + 2 ^ digit_of b < 2 ^ word_digits)))
  up_asks h q z f =
      let g : count_of l b ≡ 0 = ap (λ (x : ℕ). get_or l x 0) (sym e) ∙ z in
      rw f (simp length-set (omega (arith, h.1.rows.long)), (omega arith, (q, rw e (up_fits h.1.rows b q g (count_of l b + 1)))))

  pub down_asks : Marked l → IsProcess most_processes b → 1 ≤ count_of l b → {k : List ℕ} → k ≡ set l i (get_or l i 0 - 1)
      → (sets_size ≤ length k) × ((0 ≤ most_processes) × (IsProcess most_processes b × (2 ^ digit_of b ≤ word k 0 b)))
  down_asks h q u f =
      rw f (simp length-set (omega (arith, h.1.rows.long)), (omega arith, (q, rw e (down_fits h.1.rows b q (λ z. absurd (omega arith)) (count_of l b - 1)))))

  -- the same by what is read once the count is put anew
  module _ (h : Marked l) (q : IsProcess most_processes b) where
    -- what is put there is read there
    put : (v : ℕ) → get_or (set l i v) i 0 ≡ v
    put v = get_or-set_same l i v 0 (omega (arith, e, h.1.rows.long, q))

    zero : get_or (set l i (get_or l i 0 + 1)) i 0 ≡ 1 → get_or l i 0 ≡ 0
    zero t = let p = put (get_or l i 0 + 1) in omega (arith, p, t)

    pub up_stays : (get_or (set l i (get_or l i 0 + 1)) i 0 ≡ 1 → ⊥) → set l i (get_or l i 0 + 1) ≡ counted_up l b
    up_stays t = up_same (λ z. t (let p = put (get_or l i 0 + 1) in omega (arith, p, z)))

    pub up_turns : get_or (set l i (get_or l i 0 + 1)) i 0 ≡ 1 → {k : List ℕ} → k ≡ added_to (set l i (get_or l i 0 + 1)) 0 b → k ≡ counted_up l b
    up_turns t = up_turned (zero t)

    pub up_word : get_or (set l i (get_or l i 0 + 1)) i 0 ≡ 1 → word (set l i (get_or l i 0 + 1)) 0 b + 2 ^ digit_of b < 2 ^ word_digits
    up_word t = (up_asks h q (zero t) refl).1.1.1

    pub down_stays : (get_or (set l i (get_or l i 0 - 1)) i 0 ≡ 0 → ⊥) → set l i (get_or l i 0 - 1) ≡ counted_down l b
    down_stays t = down_same (λ z. t (put (get_or l i 0 - 1) ∙ z))

    pub down_turns : get_or (set l i (get_or l i 0 - 1)) i 0 ≡ 0 → {k : List ℕ} → k ≡ struck_from (set l i (get_or l i 0 - 1)) 0 b → k ≡ counted_down l b
    down_turns t = down_turned (sym (put (get_or l i 0 - 1)) ∙ t)

    pub down_word : 1 ≤ count_of l b → 2 ^ digit_of b ≤ word (set l i (get_or l i 0 - 1)) 0 b
    down_word u = (down_asks h q u refl).1.1.1

-- ---- one link

module _ (l : List ℕ) (a b : ℕ) (i : IsProcess most_processes a) (j : IsProcess most_processes b) where
  -- the array says whether the link is marked
  in_set : (held : ℕ → ℕ → Bool) → Marks held l → is_in l b a ≡ held a b
  in_set held h = is_in_is (h.rows.senders b j) a i

  module _ {v : Bool} (f : v ≡ is_in l b a) where
    pub mark_none : v ≡ true → Turns l (λ held. turned held a b true) l
    mark_none e held h = marks_cong h (λ x y _ _. turned_same held a b true (sym (in_set held h) ∙ sym f ∙ e) x y)

    module _ (e : v ≡ false) {k : List ℕ} (g : k ≡ counted_up l b) where
      out : (held : ℕ → ℕ → Bool) → Marks held l → held a b ≡ false
      out held h = sym (in_set held h) ∙ sym f ∙ e

      pub mark_asks : Marked l
          → (sets_size ≤ length k) × ((b ≤ most_processes) × (IsProcess most_processes a × (word k b a + 2 ^ digit_of a < 2 ^ word_digits)))
      mark_asks h = rw g (omega (arith, (counted_up_is h.1.rows b j).long), (j.1, (i, added_word h.1.rows a b i j (out h.0 h.1))))

      module _ {m : List ℕ} (t : m ≡ added_to k b a) where
        pub mark_asks_group : Marked l → (length m ≡ memory_size) × (IsProcess most_processes b × (group_count m b ≤ most_processes * most_processes))
        mark_asks_group h =
            let s : group_count m b ≡ group_count l b = ap (λ (x : List ℕ). group_count x b) (t ∙ ap (λ (x : List ℕ). added_to x b a) g)
            ∙ stand_up h.1 a b i j (out h.0 h.1) (group_of b) in
            (rw (t, g) (simp length-set (counted_up_is h.1.rows b j).long), (j, omega (arith, s, group_few h.1 b j)))

        pub mark_is : {n : List ℕ} → n ≡ put_group m b (group_count m b + 1) → Turns l (λ held. turned held a b true) n
        mark_is u held h = rw (u, t, g) (marks_added h a b i j (out held h))

  module _ (h : MarkedAt l a b) where
    inside : (held : ℕ → ℕ → Bool) → Marks held l → held a b ≡ true
    inside held g = sym (in_set held g) ∙ in_set h.0 h.1 ∙ h.2

    pub unmark_asks : Marked l × (IsProcess most_processes b × (1 ≤ count_of l b))
    unmark_asks = let z = marks_some h.1.rows a b i j h.2 in ((h.0, h.1), (j, some z))
      where
        some : {n : ℕ} → (n ≡ 0 → ⊥) → 1 ≤ n
        some z = omega (arith, z)

    module _ {k : List ℕ} (g : k ≡ counted_down l b) where
      pub strike_asks : (sets_size ≤ length k) × ((b ≤ most_processes) × (IsProcess most_processes a × (2 ^ digit_of a ≤ word k b a)))
      strike_asks =
          let d = counted_down_is h.1.rows b j (marks_some h.1.rows a b i j h.2) in
          rw g (omega (arith, d.long), (j.1, (i, struck_word h.1.rows a b i j h.2)))

      module _ {m : List ℕ} (t : m ≡ struck_from k b a) where
        pub unmark_asks_group : (length m ≡ memory_size) × (IsProcess most_processes b × (1 ≤ group_count m b))
        unmark_asks_group =
            let d = counted_down_is h.1.rows b j (marks_some h.1.rows a b i j h.2) in
            (rw (t, g) (simp length-set d.long), (j, rw (t, g) (group_some h.1 a b i j h.2)))

        pub unmark_is : {n : List ℕ} → n ≡ put_group m b (group_count m b - 1) → Turns l (λ held. turned held a b false) n
        unmark_is u held n = rw (u, t, g) (marks_struck n a b i j (inside held n))
