-- Laws of marks with the counts of the groups.
--   held_to_within, held_to_most     == no fewer pairs with more receivers; and a bound
--   held_at, held_below            == one pair more passes: so many more with receivers up to its own, and no more below
--   marks_cong, marks_cleared      == another test of pairs that agrees; an array of zeros
--   stand_up                       == the counts of the groups stand while a link is marked
--   group_few, group_some          == a group's count is small, and not 0 where a link to it is marked
--   held_to_next                    == the pairs with one receiver more
--   least_begins, groups_first, groups_next   == where to begin to look: at the lowest receiver, or behind so many groups
--   marks_added, marks_struck      == the array once a link that was not marked is, and once one that was is not, its group's count put anew
-- Assumes nothing.
use Rattle.std.specs.Prelude.{ℕ, suc, ◌+◌, ◌-◌, ◌*◌, ◌^◌, ◌≤◌, ◌<◌, Bool, true, false, not, List, ◌≡◌, eqb, length, get_or, set}
use Rattle.std.proofs.Math.Path.{refl, sym, ap}
use Rattle.std.proofs.Common.{◌∙◌, arith, eqb-true, length-set, get_or-set_same, get_or-set_other}
use Rattle.base.specs.Choice.{bit}
use Rattle.base.specs.ChoiceLaws.{same?, below?}
use Rattle.base.specs.Checks.{Same, same, apart, Below, below, beyond}
use Rattle.base.specs.Sums.{sum_to, count_to, spot}
use Rattle.base.specs.SumLaws.{spot_at, spot_off, sum_to_cong, sum_to_add, sum_to_spot, sum_to_zero, sum_to_more, sum_to_most, count_to_most}
use Rattle.tables.specs.Table.{most_processes, IsProcess}
use Rattle.sets.specs.Sets.{set_at, word_at, digit_of, word, added_to, struck_from, lowest_in}
use Rattle.sets.specs.SetLaws.{set_off, set_cong, lowest_in_first, lowest_of_most}
use Rattle.sets.specs.CountLaws.{count_cong, count_more}
use Rattle.marks.specs.Marks.{memory_size, group_size, groups, count_at, group_at, group_of, held_to, Rows, Marks}
use Rattle.marks.specs.Changes.{busy, count_of, counted_up, counted_down, turned, group_count, put_group}
use Rattle.marks.specs.MarkLaws.{counted_up_is, counted_down_is, marks_some, rows_cong, rows_cleared, rows_added, rows_struck, turned_at, turned_elsewhere}

-- ---- pairs by their receivers

module _ (held : ℕ → ℕ → Bool) where
  pub held_to_within : (m n : ℕ) → m ≤ n → held_to held m ≤ held_to held n
  unfolding held_to
  held_to_within m n u = sum_to_more m n (λ b. count_to most_processes (λ a. held a b)) u

  pub held_to_most : (m : ℕ) → held_to held m ≤ most_processes * m
  unfolding held_to
  held_to_most m = sum_to_most m most_processes (λ b. count_to most_processes (λ a. held a b)) (λ b _ _. count_to_most most_processes (λ a. held a b))

-- the same pairs
held_to_cong : (f g : ℕ → ℕ → Bool) (m : ℕ) → ((a b : ℕ) → IsProcess most_processes a → 1 ≤ b → b ≤ m → f a b ≡ g a b) → held_to f m ≡ held_to g m
unfolding held_to
held_to_cong f g m e =
    sum_to_cong m (λ b. count_to most_processes (λ a. f a b)) (λ b. count_to most_processes (λ a. g a b))
    (λ b l u. count_cong most_processes (λ a. f a b) (λ a. g a b) (λ a v w. e a b (v, w) l u))

-- one pair more, from a to b
module _ (f g : ℕ → ℕ → Bool) (a b : ℕ) (i : IsProcess most_processes a) (j : IsProcess most_processes b) (out : f a b ≡ false) (inside : g a b ≡ true)
    (same_else : (x y : ℕ) → (x ≡ a → y ≡ b → ⊥) → f x y ≡ g x y) where
  pub held_below : (m : ℕ) → m < b → held_to g m ≡ held_to f m
  held_below m u = held_to_cong g f m (λ x y _ _ v. sym (same_else x y (λ _ e. absurd (omega arith))))

  pub held_at : (m : ℕ) → b ≤ m → held_to g m ≡ held_to f m + 1
  unfolding held_to
  held_at m u =
      sum_to_cong m (λ y. count_to most_processes (λ x. g x y)) (λ y. count_to most_processes (λ x. f x y) + spot b 1 y) (λ y _ _. at y (same? y b))
      ∙ sum_to_add m (λ y. count_to most_processes (λ x. f x y)) (spot b 1)
      ∙ ap (λ (k : ℕ). sum_to m (λ y. count_to most_processes (λ x. f x y)) + k) (sum_to_spot m b 1 j.0 u)
    where
      at : (y : ℕ) → Same y b → count_to most_processes (λ x. g x y) ≡ count_to most_processes (λ x. f x y) + spot b 1 y
      at y (same e _) =
          rw (e, spot_at b 1)
          (count_more most_processes (λ x. f x b) (λ x. g x b) a i out inside (λ x d. same_else x b (λ p _. d p)))
      at y (apart e _) =
          rw (spot_off b 1 y e)
          (count_cong most_processes (λ x. g x y) (λ x. f x y) (λ x _ _. sym (same_else x y (λ _ d. e d))) ∙ omega arith)

  -- at both ends of another group than b's so many more, and at those of b's
  groups_other : (h : ℕ) → (h ≡ group_of b → ⊥)
      → (d : ℕ) × (held_to g (group_size * h) ≡ held_to f (group_size * h) + d) × (held_to g (group_size * (h + 1)) ≡ held_to f (group_size * (h + 1)) + d)
  groups_other h e = at (below? h (group_of b))
    where
      at : Below h (group_of b)
          → (d : ℕ) × (held_to g (group_size * h) ≡ held_to f (group_size * h) + d) × (held_to g (group_size * (h + 1)) ≡ held_to f (group_size * (h + 1)) + d)
      at (below u _) =
          (0, omega (arith, held_below (group_size * h) (omega (arith, j))), omega (arith, held_below (group_size * (h + 1)) (omega (arith, j))))
      at (beyond u _) = (1, held_at (group_size * h) (omega (arith, j)), held_at (group_size * (h + 1)) (omega (arith, j)))

  groups_here : (held_to g (group_size * group_of b) ≡ held_to f (group_size * group_of b))
      × (held_to g (group_size * (group_of b + 1)) ≡ held_to f (group_size * (group_of b + 1)) + 1)
  groups_here = (held_below (group_size * group_of b) (omega (arith, j)), held_at (group_size * (group_of b + 1)) (omega (arith, j)))

-- ---- marks

pub marks_cong : {held other : ℕ → ℕ → Bool} {l : List ℕ} → Marks held l
    → ((a b : ℕ) → IsProcess most_processes a → IsProcess most_processes b → held a b ≡ other a b) → Marks other l
marks_cong {held} {other} {l} h e = record { rows = rows_cong h.rows e; grouped = λ g u. at g u }
  where
    alike : (m : ℕ) → m ≤ most_processes → held_to held m ≡ held_to other m
    alike m u = held_to_cong held other m (λ a b i v w. e a b i (v, omega arith))

    at : (g : ℕ) → g < groups → held_to other (group_size * g) + get_or l (group_at g) 0 ≡ held_to other (group_size * (g + 1))
    at g u = omega (arith, h.grouped g u, alike (group_size * g) (omega arith), alike (group_size * (g + 1)) (omega arith))

pub marks_cleared : {l : List ℕ} → length l ≡ memory_size → ((i : ℕ) → i < memory_size → get_or l i 0 ≡ 0) → Marks (λ a b. false) l
unfolding held_to count_to
marks_cleared {l} e z =
    record {
      rows = rows_cleared e z;
      grouped = λ g u. omega (arith, none (group_size * g), none (group_size * (g + 1)), z (group_at g) (omega arith));
    }
  where
    none : (m : ℕ) → sum_to m (λ b. sum_to most_processes (λ a. bit false)) ≡ 0
    none m = sum_to_zero m (λ b. sum_to most_processes (λ a. bit false)) (λ _ _ _. sum_to_zero most_processes (λ a. bit false) (λ _ _ _. refl))

-- another count of a group leaves the rows
rows_off : {held : ℕ → ℕ → Bool} {l : List ℕ} → Rows held l → (g v : ℕ) → Rows held (set l (group_at g) v)
rows_off {held} {l} h g v =
    record {
      long = simp length-set h.long;
      counts = λ b i. other b i ∙ h.counts b i;
      receivers = set_cong (set_off h.receivers (group_at g) v (λ x u e. absurd (omega arith)))
          (busy (set l (group_at g) v)) (λ b i. ap (λ (c : ℕ). not (eqb c 0)) (sym (other b i)));
      senders = λ b i. set_off (h.senders b i) (group_at g) v (λ x u e. absurd (omega (arith, i)));
    }
  where
    other : (b : ℕ) → IsProcess most_processes b → get_or (set l (group_at g) v) (count_at b) 0 ≡ get_or l (count_at b) 0
    other b i = get_or-set_other l (group_at g) (count_at b) v 0 (λ e. absurd (omega (arith, i)))

-- ---- one link marked, or no longer marked

module _ {held : ℕ → ℕ → Bool} {l : List ℕ} (h : Marks held l) (b : ℕ) (j : IsProcess most_processes b) where
  pub group_few : group_count l b ≤ most_processes * most_processes
  group_few =
      let s = h.grouped (group_of b) (omega arith) in
      omega (arith, s, held_to_most held (group_size * (group_of b + 1)))

  -- the count of b's group put anew, in an array with other rows
  module _ {other : ℕ → ℕ → Bool} {k : List ℕ} (rows : Rows other k) (stand : (g : ℕ) → get_or k (group_at g) 0 ≡ get_or l (group_at g) 0)
      (v : ℕ) (here : held_to other (group_size * group_of b) + v ≡ held_to other (group_size * (group_of b + 1)))
      (else : (g : ℕ) → (g ≡ group_of b → ⊥) → (u : ℕ) → held_to held (group_size * g) + u ≡ held_to held (group_size * (g + 1))
      → held_to other (group_size * g) + u ≡ held_to other (group_size * (g + 1))) where
    regrouped : Marks other (put_group k b v)
    regrouped = record { rows = rows_off rows (group_of b) v; grouped = λ g u. at g u (same? g (group_of b)) }
      where
        at : (g : ℕ) → g < groups → Same g (group_of b)
            → held_to other (group_size * g) + get_or (put_group k b v) (group_at g) 0 ≡ held_to other (group_size * (g + 1))
        at g u (same e _) =
            rw e (ap (λ (x : ℕ). held_to other (group_size * group_of b) + x)
            (get_or-set_same k (group_at (group_of b)) v 0 (omega (arith, rows.long, j))) ∙ here)
        at g u (apart e _) =
            ap (λ (x : ℕ). held_to other (group_size * g) + x)
            (get_or-set_other k (group_at (group_of b)) (group_at g) v 0 (λ f. absurd (e (omega arith))) ∙ stand g)
            ∙ else g e (get_or l (group_at g) 0) (h.grouped g u)

module _ {held : ℕ → ℕ → Bool} {l : List ℕ} (h : Marks held l) (a b : ℕ) (i : IsProcess most_processes a) (j : IsProcess most_processes b) where
  word_off : (k : List ℕ) (v g : ℕ) → get_or (set k (word_at b a) v) (group_at g) 0 ≡ get_or k (group_at g) 0
  word_off k v g = get_or-set_other k (word_at b a) (group_at g) v 0 (λ e. absurd (omega (arith, i, j)))

  module _ (out : held a b ≡ false) where
    pub stand_up : (g : ℕ) → get_or (added_to (counted_up l b) b a) (group_at g) 0 ≡ get_or l (group_at g) 0
    stand_up g = word_off (counted_up l b) (word (counted_up l b) b a + 2 ^ digit_of a) g ∙ (counted_up_is h.rows b j).groups g

    pub marks_added : Marks (turned held a b true) (put_group (added_to (counted_up l b) b a) b (group_count (added_to (counted_up l b) b a) b + 1))
    marks_added =
        regrouped h b j (rows_added h.rows a b i j out) stand_up (group_count (added_to (counted_up l b) b a) b + 1)
        (let s = h.grouped (group_of b) (omega arith) in omega (arith, s, here, stand_up (group_of b)))
        (λ g e u s. let d = groups_other held (turned held a b true) a b i j out turned_in (turned_elsewhere held a b true) g e in omega (arith, s, d.1, d.2))
      where
        turned_in : turned held a b true a b ≡ true
        turned_in = turned_at h.rows a b i j true

        here : (held_to (turned held a b true) (group_size * group_of b) ≡ held_to held (group_size * group_of b))
            × (held_to (turned held a b true) (group_size * (group_of b + 1)) ≡ held_to held (group_size * (group_of b + 1)) + 1)
        here = groups_here held (turned held a b true) a b i j out turned_in (turned_elsewhere held a b true)

  module _ (inside : held a b ≡ true) where
    some : count_of l b ≡ 0 → ⊥
    some = marks_some h.rows a b i j inside

    stand_down : (g : ℕ) → get_or (struck_from (counted_down l b) b a) (group_at g) 0 ≡ get_or l (group_at g) 0
    stand_down g = word_off (counted_down l b) (word (counted_down l b) b a - 2 ^ digit_of a) g ∙ (counted_down_is h.rows b j some).groups g

    turned_out : turned held a b false a b ≡ false
    turned_out = turned_at h.rows a b i j false

    same_else : (x y : ℕ) → (x ≡ a → y ≡ b → ⊥) → turned held a b false x y ≡ held x y
    same_else x y e = sym (turned_elsewhere held a b false x y e)

    fewer : (held_to held (group_size * group_of b) ≡ held_to (turned held a b false) (group_size * group_of b))
        × (held_to held (group_size * (group_of b + 1)) ≡ held_to (turned held a b false) (group_size * (group_of b + 1)) + 1)
    fewer = groups_here (turned held a b false) held a b i j turned_out inside same_else

    pub group_some : 1 ≤ group_count (struck_from (counted_down l b) b a) b
    group_some =
        let s = h.grouped (group_of b) (omega (arith, j)) in
        let w = held_to_within (turned held a b false) (group_size * group_of b) (group_size * (group_of b + 1)) (omega arith) in
        omega (arith, s, fewer, w, stand_down (group_of b))

    pub marks_struck : Marks (turned held a b false) (put_group (struck_from (counted_down l b) b a) b (group_count (struck_from (counted_down l b) b a) b - 1))
    marks_struck =
        regrouped h b j (rows_struck h.rows a b i j inside) stand_down (group_count (struck_from (counted_down l b) b a) b - 1)
        (let s = h.grouped (group_of b) (omega (arith, j)) in omega (arith, s, fewer, stand_down (group_of b), group_some))
        (λ g e u s. let d = groups_other (turned held a b false) held a b i j turned_out inside same_else g e in omega (arith, s, d.1, d.2))

-- ---- where to begin, and to go on

-- one receiver more
pub held_to_next : (mark : ℕ → ℕ → Bool) (b : ℕ) → 1 ≤ b → held_to mark (b + 1 - 1) ≡ held_to mark (b - 1) + count_to most_processes (λ a. mark a b)
unfolding held_to sum_to
held_to_next mark b l =
    let e : b + 1 - 1 ≡ suc (b - 1) = omega arith in
    let up : suc (b - 1) ≡ b = omega arith in
    ap (λ (n : ℕ). held_to mark n) e
    ∙ ap (λ (n : ℕ). held_to mark (b - 1) + count_to most_processes (λ a. mark a n)) up

module _ {mark : ℕ → ℕ → Bool} {l : List ℕ} (h : Marks mark l) where
  -- nothing waits for a receiver below the lowest
  pub least_begins : held_to mark (lowest_in l 0 - 1) ≡ 0
  unfolding held_to
  least_begins = sum_to_zero (lowest_in l 0 - 1) (λ b. count_to most_processes (λ a. mark a b)) (λ b lo u. none b (lo, omega (arith, few)) (omega arith))
    where
      few : lowest_in l 0 ≤ most_processes + 1
      few = lowest_of_most (get_or l (set_at 0) 0) (get_or l (set_at 0 + 1) 0)

      zero : {n : ℕ} → not (eqb n 0) ≡ false → n ≡ 0
      zero {n} e = eqb-true n 0 (at (eqb n 0) e)
        where
          at : (t : Bool) → not t ≡ false → t ≡ true
          at true _ = refl
          at false e = cc

      none : (b : ℕ) → IsProcess most_processes b → b < lowest_in l 0 → count_to most_processes (λ a. mark a b) ≡ 0
      none b i u = sym (h.rows.counts b i) ∙ zero (lowest_in_first h.rows.receivers b i.0 u)

  -- the first group, and the next
  pub groups_first : held_to mark (group_size * 0) ≡ 0
  unfolding held_to sum_to
  groups_first = refl

  pub groups_next : (g : ℕ) → g < groups → {i : ℕ} → i ≡ group_at g → held_to mark (group_size * g) + get_or l i 0 ≡ held_to mark (group_size * (g + 1))
  groups_next g u e = ap (λ (x : ℕ). held_to mark (group_size * g) + get_or l x 0) e ∙ h.grouped g u
