-- Laws of the counts and sets: one link more, or one less, holds a message.
--   rows_cong                      == another test of pairs that agrees
--   rows_cleared                   == an array of zeros
--   marks_few, marks_none          == a count is at most the number of processes, and 0 where no link is marked
--   counted_up_is, counted_down_is       == what a count changed by one leaves (Recounted)
--   up_fits, down_fits             == .. and what it adds to the set 0, and takes away, fits its word
--   rows_added, rows_struck        == the array once a link that was not marked is, and once one that was is not
--   marks_some                     == where a link to b is marked, b's count is not 0
--   added_word, struck_word        == and what the code adds and takes away fits its word
--   turned_at, turned_elsewhere    == a test of pairs that gives v at one place
--   turned_same                    == a test of pairs that gave v there already
-- Assumes nothing.
use Prim.Native.Nat.{ℕ, ◌+◌, ◌-◌, ◌*◌, ◌^◌, ◌≤◌, ◌<◌}
use Rattle.std.specs.Prelude.{Bool, true, false, not, ◌&&◌, List, ◌≡◌, refl, eqb, length, get_or, set}
use Rattle.std.proofs.lemmas.Bool.{false≢true}
use Rattle.std.proofs.Common.{sym, ap, ◌∙◌, arith, eq-eqb, ne_eqb, length-set, get_or-set_same, get_or-set_other}
use Rattle.base.specs.Choice.{choose, bit}
use Rattle.base.specs.ChoiceLaws.{same?}
use Rattle.base.specs.Checks.{Same, same, apart}
use Rattle.base.specs.Sums.{count_to}
use Rattle.base.specs.SumLaws.{sum_to_zero, count_to_most}
use Rattle.tables.specs.Table.{most_processes, IsProcess}
use Rattle.sets.specs.CountLaws.{count_cong, count_more, count_none}
use Rattle.sets.specs.DigitLaws.{digits_none}
use Rattle.sets.specs.Sets.{word_digits, set_at, word_at, digit_of, SetIs, word, added_to, struck_from, with_at}
use Rattle.sets.specs.SetLaws.{set_cong, set_off, set_added, set_struck, added_fits, struck_fits}
use Rattle.marks.specs.Marks.{memory_size, count_at, group_at, Rows}
use Rattle.marks.specs.Changes.{count_of, put_count, counted_up, counted_down, busy, turned}

-- ---- marks

pub rows_cong : {held other : ℕ → ℕ → Bool} {l : List ℕ} → Rows held l
    → ((a b : ℕ) → IsProcess most_processes a → IsProcess most_processes b → held a b ≡ other a b) → Rows other l
rows_cong {held} {other} h e =
    record {
      long = h.long;
      counts = λ b i. h.counts b i ∙ count_cong most_processes (λ a. held a b) (λ a. other a b) (λ a l u. e a b (l, u) i);
      receivers = h.receivers;
      senders = λ b i. set_cong (h.senders b i) (λ a. other a b) (λ a j. e a b j i);
    }

module _ {held : ℕ → ℕ → Bool} {l : List ℕ} (h : Rows held l) (b : ℕ) (i : IsProcess most_processes b) where
  pub marks_few : get_or l (count_at b) 0 ≤ most_processes
  marks_few = omega (arith, h.counts b i, count_to_most most_processes (λ a. held a b))

  pub marks_none : get_or l (count_at b) 0 ≡ 0 → (a : ℕ) → IsProcess most_processes a → held a b ≡ false
  marks_none e a j = count_none most_processes (λ x. held x b) (sym (h.counts b i) ∙ e) a j

-- nothing but zeros
pub rows_cleared : {l : List ℕ} → length l ≡ memory_size → ((i : ℕ) → i < memory_size → get_or l i 0 ≡ 0) → Rows (λ a b. false) l
unfolding count_to
rows_cleared {l} e z =
    record {
      long = e;
      counts = λ b i. z (count_at b) (omega arith) ∙ sym (sum_to_zero most_processes (λ a. bit false) (λ k _ _. refl));
      receivers = record { words = λ h u. z (set_at 0 + h) (omega arith) ∙ sym (digits_none word_digits (λ i. busy l (word_digits * h + i + 1)) (calm h u)) };
      senders = λ b i. record { words = λ h u. z (set_at b + h) (omega arith) ∙ sym (digits_none word_digits (λ k. false) (λ k v. refl)) };
    }
  where
    calm : (h : ℕ) → h ≤ 1 → (i : ℕ) → i < word_digits → busy l (word_digits * h + i + 1) ≡ false
    calm h u i v = ap (λ (x : ℕ). not (eqb x 0)) (z (count_at (word_digits * h + i + 1)) (omega arith))

-- ---- one count changed

-- the count of b is v, the others stand, and those are busy whose count is not 0; every set of senders stands
pub record Recounted (l k : List ℕ) (b v : ℕ) : Type 0 where
  pub long : length k ≡ memory_size
  pub here : get_or k (count_at b) 0 ≡ v
  pub others : (y : ℕ) → IsProcess most_processes y → (y ≡ b → ⊥) → get_or k (count_at y) 0 ≡ get_or l (count_at y) 0
  pub receivers : SetIs k 0 (busy k)
  pub senders : (j : ℕ) → IsProcess most_processes j → (S : ℕ → Bool) → SetIs l j S → SetIs k j S
  pub groups : (g : ℕ) → get_or k (group_at g) 0 ≡ get_or l (group_at g) 0

module _ {held : ℕ → ℕ → Bool} {l : List ℕ} (h : Rows held l) (b : ℕ) (i : IsProcess most_processes b) (v : ℕ) where
  -- b's count is put
  abbrev one : List ℕ
  one = set l (count_at b) v

  long_one : length one ≡ memory_size
  long_one = simp length-set h.long

  one_here : get_or one (count_at b) 0 ≡ v
  one_here = get_or-set_same l (count_at b) v 0 (omega (arith, h.long))

  one_other : (y : ℕ) → (y ≡ b → ⊥) → get_or one (count_at y) 0 ≡ get_or l (count_at y) 0
  one_other y e = get_or-set_other l (count_at b) (count_at y) v 0 (λ f. e (omega arith))

  one_set : (j : ℕ) → j ≤ most_processes → (S : ℕ → Bool) → SetIs l j S → SetIs one j S
  one_set j few S s = set_off s (count_at b) v (λ x u e. absurd (omega arith))

  one_group : (g : ℕ) → get_or one (group_at g) 0 ≡ get_or l (group_at g) 0
  one_group g = get_or-set_other l (count_at b) (group_at g) v 0 (λ e. absurd (omega arith))

  -- b is busy as before
  recounted_same : busy l b ≡ not (eqb v 0) → Recounted l one b v
  recounted_same e =
      record {
        long = long_one;
        here = one_here;
        others = λ y _ f. one_other y f;
        receivers = set_cong (one_set 0 (omega arith) (busy l) h.receivers) (busy one) (λ q _. at q (same? q b));
        senders = λ j q S s. one_set j q.1 S s;
        groups = one_group;
      }
    where
      at : (q : ℕ) → Same q b → busy l q ≡ busy one q
      at q (same f _) = rw f (e ∙ ap (λ (x : ℕ). not (eqb x 0)) (sym one_here))
      at q (apart f _) = ap (λ (x : ℕ). not (eqb x 0)) (sym (one_other q f))

  -- b is busy and was not, or is not and was: the word w is put where its digit stands
  module _ (w : ℕ) (now-busy : SetIs (set one (word_at 0 b) w) 0 (with_at (busy l) b (not (eqb v 0)))) where
    abbrev two : List ℕ
    two = set one (word_at 0 b) w

    two_count : (y : ℕ) → IsProcess most_processes y → get_or two (count_at y) 0 ≡ get_or one (count_at y) 0
    two_count y q = get_or-set_other one (word_at 0 b) (count_at y) w 0 (λ e. absurd (omega arith))

    recounted_turned : Recounted l two b v
    recounted_turned =
        record {
          long = simp length-set h.long;
          here = two_count b i ∙ one_here;
          others = λ y q f. two_count y q ∙ one_other y f;
          receivers = set_cong now-busy (busy two) (λ q j. at q j (same? q b));
          senders = λ j q S s. set_off (one_set j q.1 S s) (word_at 0 b) w (λ x u e. absurd (omega arith));
          groups = λ g. get_or-set_other one (word_at 0 b) (group_at g) w 0 (λ e. absurd (omega arith)) ∙ one_group g;
        }
      where
        at : (q : ℕ) → IsProcess most_processes q → Same q b → choose (eqb q b) (not (eqb v 0)) (busy l q) ≡ busy two q
        at q j (same f t) = rw t (ap (λ (x : ℕ). not (eqb x 0)) (sym (ap (λ (y : ℕ). get_or two (count_at y) 0) f ∙ two_count b i ∙ one_here)))
        at q j (apart f t) = rw t (ap (λ (x : ℕ). not (eqb x 0)) (sym (two_count q j ∙ one_other q f)))

module _ {held : ℕ → ℕ → Bool} {l : List ℕ} (h : Rows held l) (b : ℕ) (i : IsProcess most_processes b) where
  -- where nothing waited for b, b's digit is 0, and where something did it is 1
  calm : count_of l b ≡ 0 → busy l b ≡ false
  calm e = ap (λ (x : ℕ). not (eqb x 0)) e

  stirred : (count_of l b ≡ 0 → ⊥) → busy l b ≡ true
  stirred e = ap not (ne_eqb (count_of l b) 0 e)

  one_busy : (v : ℕ) → SetIs (put_count l b v) 0 (busy l)
  one_busy v = one_set h b i v 0 (omega arith) (busy l) h.receivers

  pub up_fits : count_of l b ≡ 0 → (v : ℕ) → word (put_count l b v) 0 b + 2 ^ digit_of b < 2 ^ word_digits
  up_fits e v = added_fits (one_busy v) b i (calm e)

  pub down_fits : (count_of l b ≡ 0 → ⊥) → (v : ℕ) → 2 ^ digit_of b ≤ word (put_count l b v) 0 b
  down_fits e v = struck_fits (one_busy v) b i (stirred e)

  pub counted_up_is : Recounted l (counted_up l b) b (count_of l b + 1)
  unfolding counted_up
  counted_up_is = at (same? (count_of l b) 0)
    where
      v : ℕ
      v = count_of l b + 1

      some : not (eqb v 0) ≡ true
      some = ap not (ne_eqb v 0 (λ e. absurd (omega arith)))

      at : Same (count_of l b) 0 → Recounted l (choose (eqb (count_of l b) 0) (added_to (put_count l b v) 0 b) (put_count l b v)) b v
      at (same e f) =
          let s = set_added (one_busy v) b i (calm e) (omega (arith, long_one h b i v)) (omega arith) in
          rw f (recounted_turned h b i v (word (put_count l b v) 0 b + 2 ^ digit_of b) (rw some s))
      at (apart e f) = rw f (recounted_same h b i v (stirred e ∙ sym some))

  pub counted_down_is : (count_of l b ≡ 0 → ⊥) → Recounted l (counted_down l b) b (count_of l b - 1)
  unfolding counted_down
  counted_down_is some = at (same? v 0)
    where
      v : ℕ
      v = count_of l b - 1

      at : Same v 0 → Recounted l (choose (eqb v 0) (struck_from (put_count l b v) 0 b) (put_count l b v)) b v
      at (same e f) =
          let s = set_struck (one_busy v) b i (stirred some) (omega (arith, long_one h b i v)) (omega arith) in
          let none : not (eqb v 0) ≡ false = ap not f in
          rw f (recounted_turned h b i v (word (put_count l b v) 0 b - 2 ^ digit_of b) (rw none s))
      at (apart e f) = rw f (recounted_same h b i v (stirred some ∙ sym (ap not f)))

-- ---- one link marked, or no longer marked

module _ {held : ℕ → ℕ → Bool} {l : List ℕ} (h : Rows held l) (a b : ℕ) (i : IsProcess most_processes a) (j : IsProcess most_processes b) where
  turned_other : (t : Bool) (x y : ℕ) → (y ≡ b → ⊥) → held x y ≡ turned held a b t x y
  turned_other t x y e = at (same? x a)
    where
      at : Same x a → held x y ≡ choose (eqb x a && eqb y b) t (held x y)
      at (same _ f) = rw (f, ne_eqb y b e)
      at (apart _ f) = rw f

  turned_here : (t : Bool) (x : ℕ) → with_at (λ z. held z b) a t x ≡ turned held a b t x b
  turned_here t x = at (same? x a)
    where
      at : Same x a → choose (eqb x a) t (held x b) ≡ choose (eqb x a && eqb b b) t (held x b)
      at (same _ f) = rw (f, eq-eqb b b refl)
      at (apart _ f) = rw f

  pub turned_at : (t : Bool) → turned held a b t a b ≡ t
  turned_at t = rw (eq-eqb a a refl, eq-eqb b b refl)

  turned_off : (t : Bool) (x : ℕ) → (x ≡ a → ⊥) → held x b ≡ turned held a b t x b
  turned_off t x e = rw (ne_eqb x a e)

  module _ {k : List ℕ} {v : ℕ} (r : Recounted l k b v) (t : Bool) (is : v ≡ count_to most_processes (λ x. turned held a b t x b))
      (w : ℕ) (s : SetIs (set k (word_at b a) w) b (with_at (λ x. held x b) a t)) where
    abbrev end : List ℕ
    end = set k (word_at b a) w

    end_count : (y : ℕ) → IsProcess most_processes y → get_or end (count_at y) 0 ≡ get_or k (count_at y) 0
    end_count y q = get_or-set_other k (word_at b a) (count_at y) w 0 (λ e. absurd (omega arith))

    rows_turned : Rows (turned held a b t) end
    rows_turned =
        record {
          long = simp length-set r.long;
          counts = λ y q. end_count y q ∙ counted y q (same? y b);
          receivers = set_cong (set_off r.receivers (word_at b a) w (λ x u e. absurd (omega arith))) (busy end)
              (λ q p. ap (λ (x : ℕ). not (eqb x 0)) (sym (end_count q p)));
          senders = λ y q. sent y q (same? y b);
        }
      where
        counted : (y : ℕ) → IsProcess most_processes y → Same y b → get_or k (count_at y) 0 ≡ count_to most_processes (λ x. turned held a b t x y)
        counted y q (same e _) = rw e (r.here ∙ is)
        counted y q (apart e _) =
            r.others y q e ∙ h.counts y q
            ∙ count_cong most_processes (λ x. held x y) (λ x. turned held a b t x y) (λ x _ _. turned_other t x y e)

        sent : (y : ℕ) → IsProcess most_processes y → Same y b → SetIs end y (λ x. turned held a b t x y)
        sent y q (same e _) = rw e (set_cong s (λ x. turned held a b t x b) (λ x _. turned_here t x))
        sent y q (apart e _) =
            let off = set_off (r.senders y q (λ x. held x y) (h.senders y q)) (word_at b a) w (λ x u f. absurd (e (omega arith))) in
            set_cong off (λ x. turned held a b t x y) (λ x _. turned_other t x y e)

  module _ (out : held a b ≡ false) where
    up : SetIs (counted_up l b) b (λ x. held x b)
    up = (counted_up_is h b j).senders b j (λ x. held x b) (h.senders b j)

    pub added_word : word (counted_up l b) b a + 2 ^ digit_of a < 2 ^ word_digits
    added_word = added_fits up a i out

    pub rows_added : Rows (turned held a b true) (added_to (counted_up l b) b a)
    rows_added =
        rows_turned (counted_up_is h b j) true (sym more) (word (counted_up l b) b a + 2 ^ digit_of a)
        (set_added up a i out (omega (arith, (counted_up_is h b j).long)) j.1)
      where
        more : count_to most_processes (λ x. turned held a b true x b) ≡ count_of l b + 1
        more =
            count_more most_processes (λ x. held x b) (λ x. turned held a b true x b) a i out (turned_at true) (λ x e. turned_off true x e)
            ∙ ap (λ (c : ℕ). c + 1) (sym (h.counts b j))

  module _ (inside : held a b ≡ true) where
    pub marks_some : count_of l b ≡ 0 → ⊥
    marks_some e = false≢true (sym (marks_none h b j e a i) ∙ inside)

    down : SetIs (counted_down l b) b (λ x. held x b)
    down = (counted_down_is h b j marks_some).senders b j (λ x. held x b) (h.senders b j)

    pub struck_word : 2 ^ digit_of a ≤ word (counted_down l b) b a
    struck_word = struck_fits down a i inside

    pub rows_struck : Rows (turned held a b false) (struck_from (counted_down l b) b a)
    rows_struck =
        rows_turned (counted_down_is h b j marks_some) false (omega (arith, less)) (word (counted_down l b) b a - 2 ^ digit_of a)
        (set_struck down a i inside (omega (arith, (counted_down_is h b j marks_some).long)) j.1)
      where
        less : count_of l b ≡ count_to most_processes (λ x. turned held a b false x b) + 1
        less =
            h.counts b j
            ∙ count_more most_processes (λ x. turned held a b false x b) (λ x. held x b) a i (turned_at false) inside (λ x e. sym (turned_off false x e))

-- elsewhere it gives what it gave
pub turned_elsewhere : (held : ℕ → ℕ → Bool) (a b : ℕ) (v : Bool) (x y : ℕ) → (x ≡ a → y ≡ b → ⊥) → held x y ≡ turned held a b v x y
turned_elsewhere held a b v x y e = at (same? x a) (same? y b)
  where
    at : Same x a → Same y b → held x y ≡ choose (eqb x a && eqb y b) v (held x y)
    at (same f p) (same g q) = absurd (e f g)
    at (same f p) (apart g q) = rw (p, q)
    at (apart f p) _ = rw p

-- a test of pairs that gave v there already
pub turned_same : (held : ℕ → ℕ → Bool) (a b : ℕ) (v : Bool) → held a b ≡ v → (x y : ℕ) → held x y ≡ turned held a b v x y
turned_same held a b v e x y = at (same? x a) (same? y b)
  where
    at : Same x a → Same y b → held x y ≡ choose (eqb x a && eqb y b) v (held x y)
    at (same f p) (same g q) = rw (p, q, f, g) e
    at (same f p) (apart g q) = rw (p, q)
    at (apart f p) _ = rw p
