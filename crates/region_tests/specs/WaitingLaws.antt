-- Laws of the sets of those that each process waits for.
--   sets_in, waiting_joined   == by the sets, who waits for whom, and who are neighbours
--   sets_none, sets_cong      == an array of zeros; another test that agrees
--   sets_fit, sets_added      == one more in one of the sets
--   first_arcs t k             == who waits for whom by the first k arcs
--   arcs_none, arcs_asks, arcs_more, arcs_all   == before the first arc; what one arc more asks, and what it makes of the sets; after the last
-- Assumes nothing.
use Rattle.std.specs.Prelude.{ℕ, suc, ◌+◌, ◌^◌, ◌≤◌, ◌<◌, Bool, true, false, not, ◌||◌, List, ◌≡◌, refl, eqb, length, get_or}
use Rattle.std.proofs.Common.{sym, ap, ◌∙◌, arith, eq-eqb, ne_eqb, length-set}
use Rattle.base.specs.Choice.{choose}
use Rattle.base.specs.ChoiceLaws.{tested, same?}
use Rattle.base.specs.Checks.{Tested, passed, failed, Same, same, apart}
use Rattle.tables.specs.Table.{Fields, m_of, most_processes, IsProcess, arc_at, says_wait}
use Rattle.tables.specs.Layout.{Right}
use Rattle.tables.specs.Waits.{waits_of, neighbours}
use Rattle.tables.specs.WaitsLaws.{says_wait_from, says_wait_to}
use Rattle.sets.specs.Sets.{sets_size, word_digits, set_at, word_at, digit_of, SetIs, word, is_in, added_to}
use Rattle.sets.specs.DigitLaws.{digits_none}
use Rattle.sets.specs.SetLaws.{set_cong, set_off, is_in_is, added_fits, set_added}
use Rattle.areas.specs.Area.{arc_in, arc_of}
use Rattle.areas.specs.ArcLaws.{arc_in_zero, arc_in_new, arc_in_right, arc_of_waits}
use Rattle.region_tests.specs.Waiting.{SetsAre, Waiting}

-- ---- the sets of an array

pub sets_none : (l : List ℕ) → length l ≡ sets_size → ((i : ℕ) → get_or l i 0 ≡ 0) → SetsAre (λ a b. false) l
sets_none l long z =
    record {
      long = long;
      sets = λ a _. record { words = λ h _. z (set_at a + h) ∙ sym (digits_none word_digits (λ i. false) (λ i _. refl)) };
    }

pub sets_cong : {S : ℕ → ℕ → Bool} {l : List ℕ} → SetsAre S l → (T : ℕ → ℕ → Bool) → ((a b : ℕ) → S a b ≡ T a b) → SetsAre T l
sets_cong h T e = record { long = h.long; sets = λ a u. set_cong (h.sets a u) (T a) (λ b _. e a b) }

module _ {S : ℕ → ℕ → Bool} {l : List ℕ} (h : SetsAre S l) (a b : ℕ) (u : a ≤ most_processes) (i : IsProcess most_processes b) where
  pub sets_in : is_in l a b ≡ S a b
  sets_in = is_in_is (h.sets a u) b i

  module _ (out : S a b ≡ false) where
    pub sets_fit : word l a b + 2 ^ digit_of b < 2 ^ word_digits
    sets_fit = added_fits (h.sets a u) b i out

    -- one more in the set of a: another test, which agrees elsewhere
    pub sets_added : (T : ℕ → ℕ → Bool) → T a b ≡ true → ((x y : ℕ) → (x ≡ a → y ≡ b → ⊥) → S x y ≡ T x y) → SetsAre T (added_to l a b)
    sets_added T t agree = record { long = simp length-set h.long; sets = λ x v. at x v (same? x a) }
      where
        here : (y : ℕ) → Same y b → choose (eqb y b) true (S a y) ≡ T a y
        here y (same e f) = rw (f, e) (sym t)
        here y (apart e f) = rw f (agree a y (λ _ g. e g))

        at : (x : ℕ) → x ≤ most_processes → Same x a → SetIs (added_to l a b) x (T x)
        at x v (same e _) = rw e (set_cong (set_added (h.sets a u) b i out (omega (arith, h.long)) u) (T a) (λ y _. here y (same? y b)))
        at x v (apart e _) =
            let off = set_off (h.sets x v) (word_at a b) (word l a b + 2 ^ digit_of b) (λ g s f. e (omega arith)) in
            set_cong off (T x) (λ y _. agree x y (λ f _. e f))

-- ---- the sets of a table

pub waiting_joined : (t : Fields) {l : List ℕ} → Waiting t l → (a b : ℕ) → IsProcess most_processes a → IsProcess most_processes b
    → (is_in l a b || is_in l b a) ≡ neighbours (waits_of t) a b
unfolding neighbours
waiting_joined t h a b i j = rw (sets_in h a b i.1 j, sets_in h b a j.1 i)

-- who waits for whom by the first k arcs
abbrev pub first_arcs : Fields → ℕ → ℕ → ℕ → Bool
first_arcs t k a b = not (eqb (arc_in t a b k) 0)

pub arcs_none : (t : Fields) (l : List ℕ) → length l ≡ sets_size → ((i : ℕ) → get_or l i 0 ≡ 0) → SetsAre (first_arcs t 0) l
arcs_none t l long z = sets_cong (sets_none l long z) (first_arcs t 0) (λ a b. rw (arc_in_zero t a b))

pub arcs_all : (t : Fields) (l : List ℕ) (k : ℕ) → k ≡ m_of t → SetsAre (first_arcs t k) l → Waiting t l
unfolding arc_of
arcs_all t l k e h = sets_cong h (waits_of t).waits (λ a b. ap (λ (m : ℕ). first_arcs t m a b) e ∙ sym (arc_of_waits t a b))

-- one arc more, in a right table
module _ (t : Fields) (l : List ℕ) (right : Right t) (k : ℕ) (few : suc k ≤ m_of t) (h : SetsAre (first_arcs t k) l) where
  abbrev from : ℕ
  from = (arc_at t (suc k)).from

  abbrev to : ℕ
  to = (arc_at t (suc k)).to

  from_in : from ≤ most_processes
  from_in = omega (arith, right.sizes.1, (right.ends (suc k) (omega arith, few)).0.1)

  to_in : IsProcess most_processes to
  to_in = let e = (right.ends (suc k) (omega arith, few)).1 in omega (arith, right.sizes.1)

  says : says_wait t from to (suc k) ≡ true
  says = rw (eq-eqb from from refl, eq-eqb to to refl)

  new : first_arcs t k from to ≡ false
  new = rw (arc_in_new t from to k right few says)

  pub arcs_asks : (from ≤ most_processes) × (IsProcess most_processes to × (word l from to + 2 ^ digit_of to < 2 ^ word_digits))
  arcs_asks = (from_in, (to_in, sets_fit h from to from_in to_in new))

  pub arcs_more : SetsAre (first_arcs t (suc k)) (added_to l from to)
  arcs_more =
      sets_added h from to from_in to_in new (first_arcs t (suc k)) (rw (arc_in_right t from to k right few, says, ne_eqb (suc k) 0 (λ z. absurd (omega arith))))
      (λ x y d. other x y d (tested (says_wait t x y (suc k))))
    where
      other : (x y : ℕ) → (x ≡ from → y ≡ to → ⊥) → Tested (says_wait t x y (suc k)) → first_arcs t k x y ≡ first_arcs t (suc k) x y
      other x y d (passed e) = absurd (d (sym (says_wait_from t x y (suc k) e)) (sym (says_wait_to t x y (suc k) e)))
      other x y d (failed e) = rw (arc_in_right t x y k right few, e)
