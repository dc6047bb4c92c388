-- What the number of an arc says, and that the link of a pair stands with the pair's arc.
--   arc_in_zero, arc_in_right            == before the first arc, and one arc more: it takes the place of its ends, and changes no other
--   arc_in_new                          == before it there was none with these ends
--   arc_of_is                           == in a right table an arc with these ends is the arc of these ends
--   arc_of_waits                        == the number is 0 exactly if a does not wait for b
--   link_of_arc, link_of_back, link_of_at == where the link of a pair stands
--   neighbours_arc                     == the ends of an arc are neighbours
-- Assumes nothing.
use Rattle.std.specs.Prelude.{ℕ, zero, suc, ◌+◌, ◌≤◌, true, false, not, ◌↔◌, ◌≡◌, refl, eqb}
use Rattle.std.proofs.lemmas.Bool.{false≢true}
use Rattle.std.proofs.Common.{sym, ap, ◌∙◌, eqb-true, eq-eqb, arith}
use Rattle.std.proofs.Math.Dec.{eqb-suc-zero}
use Rattle.base.specs.Choice.{choose}
use Rattle.base.specs.ChoiceLaws.{tested, same?, or_left}
use Rattle.base.specs.Checks.{Tested, passed, failed, Same, same, apart}
use Rattle.base.specs.Sums.{any_to}
use Rattle.tables.specs.Table.{Fields, m_of, arc_at, says_wait}
use Rattle.tables.specs.Layout.{IsArc, Alike, Right}
use Rattle.tables.specs.Waits.{waits_of, neighbours}
use Rattle.tables.specs.WaitsLaws.{says_wait_from, says_wait_to, waits_of_P}
use Rattle.areas.specs.Places.{link_size}
use Rattle.areas.specs.Area.{link_place, arc_in, arc_of, link_of, has_back}
use Rattle.areas.specs.Arcs.{Joins, LinkAt, forth, back}

-- ---- arc_in

pub arc_in_zero : (t : Fields) (a b : ℕ) → arc_in t a b 0 ≡ 0
unfolding arc_in
arc_in_zero t a b = refl

-- a number that is not 0 is that of an arc of 1 to m with these ends
arc_in_P : (t : Fields) (a b m k : ℕ) → arc_in t a b m ≡ suc k → (suc k ≤ m) × ((arc_at t (suc k)).from ≡ a) × ((arc_at t (suc k)).to ≡ b)
unfolding arc_in
arc_in_P t a b zero k e = absurd (omega arith)
arc_in_P t a b (suc m) k e = at (same? (arc_in t a b m) 0) (tested (says_wait t a b (suc m))) (λ u. arc_in_P t a b m k u)
  where
    goal : ℕ → Type 0
    goal n = (suc k ≤ n) × ((arc_at t (suc k)).from ≡ a) × ((arc_at t (suc k)).to ≡ b)

    here : says_wait t a b (suc m) ≡ true → suc m ≡ suc k → goal (suc m)
    here p q = (omega arith, rw (← q) (says_wait_from t a b (suc m) p), rw (← q) (says_wait_to t a b (suc m) p))

    more : goal m → goal (suc m)
    more g = (omega arith, g.1, g.2)

    at : Same (arc_in t a b m) 0 → Tested (says_wait t a b (suc m)) → (arc_in t a b m ≡ suc k → goal m) → goal (suc m)
    at (same z q) (passed p) below = here p (rw (q, p) at e)
    at (same z q) (failed p) below = absurd (let never : 0 ≡ suc k = rw (q, p) at e in omega arith)
    at (apart z q) p below = more (below (rw q at e))

-- some arc of 1 to m has these ends exactly if the number is not 0
arc_in_any : (t : Fields) (a b m : ℕ) → any_to m (says_wait t a b) ≡ not (eqb (arc_in t a b m) 0)
unfolding arc_in any_to
arc_in_any t a b zero = refl
arc_in_any t a b (suc m) = at (same? (arc_in t a b m) 0) (tested (says_wait t a b (suc m))) (arc_in_any t a b m)
  where
    at : Same (arc_in t a b m) 0 → Tested (says_wait t a b (suc m)) → any_to m (says_wait t a b) ≡ not (eqb (arc_in t a b m) 0)
        → any_to (suc m) (says_wait t a b) ≡ not (eqb (arc_in t a b (suc m)) 0)
    at (same z q) (passed p) below = rw (below, q, p, eqb-suc-zero)
    at (same z q) (failed p) below = rw (below, q, p)
    at (apart z q) p below = rw (below, q, q)

-- an arc before m is kept
arc_in_kept : (t : Fields) (a b m k : ℕ) → arc_in t a b m ≡ suc k → arc_in t a b (suc m) ≡ suc k
unfolding arc_in
arc_in_kept t a b m k e = rw (e, eqb-suc-zero)

-- where no arc before has these ends, arc m + 1 may
arc_in_fresh : (t : Fields) (a b m : ℕ) → arc_in t a b m ≡ 0 → arc_in t a b (suc m) ≡ choose (says_wait t a b (suc m)) (suc m) (arc_in t a b m)
unfolding arc_in
arc_in_fresh t a b m e = rw e

-- no arc of 1 to m has the ends of arc m + 1
arc_in_unlike : (t : Fields) (a b m : ℕ) → ((j : ℕ) → 1 ≤ j → j ≤ m → Alike t j (suc m) → ⊥) → says_wait t a b (suc m) ≡ true → arc_in t a b m ≡ 0
arc_in_unlike t a b m unlike p = at (arc_in t a b m) refl
  where
    at : (n : ℕ) → arc_in t a b m ≡ n → arc_in t a b m ≡ 0
    at zero e = e
    at (suc k) e =
        let j = arc_in_P t a b m k e in
        absurd (unlike (suc k) (omega arith) j.0 (j.1 ∙ sym (says_wait_from t a b (suc m) p), j.2 ∙ sym (says_wait_to t a b (suc m) p)))

-- so in a right table, where arc m + 1 has them
pub arc_in_new : (t : Fields) (a b m : ℕ) → Right t → suc m ≤ m_of t → says_wait t a b (suc m) ≡ true → arc_in t a b m ≡ 0
arc_in_new t a b m g h = arc_in_unlike t a b m (λ j l u s. omega (arith, g.unlike j (suc m) (l, omega arith) (omega arith, h) s))

-- the number of a pair after one arc more, in a right table
pub arc_in_right : (t : Fields) (a b m : ℕ) → Right t → suc m ≤ m_of t → arc_in t a b (suc m) ≡ choose (says_wait t a b (suc m)) (suc m) (arc_in t a b m)
arc_in_right t a b m g h = at (arc_in t a b m) refl (tested (says_wait t a b (suc m)))
  where
    at : (n : ℕ) → arc_in t a b m ≡ n → Tested (says_wait t a b (suc m)) → arc_in t a b (suc m) ≡ choose (says_wait t a b (suc m)) (suc m) (arc_in t a b m)
    at zero e p = arc_in_fresh t a b m e
    at (suc k) e (passed p) = absurd (omega (arith, arc_in_new t a b m g h p))
    at (suc k) e (failed p) = rw p (arc_in_kept t a b m k e ∙ sym e)

-- ---- arc_of

arc_of_P : (t : Fields) (a b k : ℕ) → arc_of t a b ≡ suc k → Joins t a b (suc k)
unfolding arc_of
arc_of_P t a b k e = let p = arc_in_P t a b (m_of t) k e in ((omega arith, p.0), p.1, p.2)

pub arc_of_waits : (t : Fields) (a b : ℕ) → (waits_of t).waits a b ≡ not (eqb (arc_of t a b) 0)
unfolding arc_of waits_of
arc_of_waits t a b = arc_in_any t a b (m_of t)

arc_of_none : (t : Fields) (a b : ℕ) → (arc_of t a b ≡ 0) ↔ ((waits_of t).waits a b ≡ false)
arc_of_none t a b = (λ e. rw (arc_of_waits t a b, e), λ e. at (same? (arc_of t a b) 0) e)
  where
    at : Same (arc_of t a b) 0 → (waits_of t).waits a b ≡ false → arc_of t a b ≡ 0
    at (same e q) h = e
    at (apart e q) h = absurd (false≢true (sym h ∙ rw (arc_of_waits t a b, q)))

-- in a right table an arc with these ends is the arc of these ends: "No two arcs agree in both from and to."
pub arc_of_is : (t : Fields) → Right t → (a b k : ℕ) → Joins t a b k → arc_of t a b ≡ k
arc_of_is t g a b k j = at (arc_of t a b) refl
  where
    at : (n : ℕ) → arc_of t a b ≡ n → arc_of t a b ≡ k
    at zero e = absurd (false≢true (sym ((arc_of_none t a b).0 e) ∙ (waits_of_P t a b).1 (k, j.0, j.1, j.2)))
    at (suc n) e =
        let i = arc_of_P t a b n e in
        e ∙ g.unlike (suc n) k i.0 j.0 (i.1 ∙ sym j.1, i.2 ∙ sym j.2)

arc_of_arc : (t : Fields) → Right t → (k : ℕ) → IsArc t k → arc_of t (arc_at t k).from (arc_at t k).to ≡ k
arc_of_arc t g k r = arc_of_is t g (arc_at t k).from (arc_at t k).to k (r, refl, refl)

-- ---- link_of

link_of_forth : (t : Fields) (a b k : ℕ) → arc_of t a b ≡ suc k → link_of t a b ≡ link_place t (suc k)
unfolding link_of
link_of_forth t a b k e = rw (e, eqb-suc-zero)

link_of_none : (t : Fields) (a b : ℕ) → arc_of t a b ≡ 0 → link_of t a b ≡ link_place t (arc_of t b a) + link_size
unfolding link_of
link_of_none t a b e = rw e

has_back_of : (t : Fields) (a b k : ℕ) → Joins t b a k → arc_of t a b ≡ 0 → has_back t k ≡ true
unfolding has_back
has_back_of t a b k j e = rw (j.1, j.2) (eq-eqb (arc_of t a b) 0 e)

pub link_of_at : (t : Fields) (a b : ℕ) → neighbours (waits_of t) a b ≡ true → LinkAt t a b
unfolding neighbours
link_of_at t a b h = at (arc_of t a b) (arc_of t b a) refl refl
  where
    at : (m n : ℕ) → arc_of t a b ≡ m → arc_of t b a ≡ n → LinkAt t a b
    at (suc m) n e e' = forth (suc m) (arc_of_P t a b m e) (link_of_forth t a b m e)
    at zero (suc n) e e' =
        back (suc n) (arc_of_P t b a n e') (has_back_of t a b (suc n) (arc_of_P t b a n e') e)
        (link_of_none t a b e ∙ ap (λ (x : ℕ). link_place t x + link_size) e')
    at zero zero e e' = absurd (false≢true (rw ((arc_of_none t a b).0 e, (arc_of_none t b a).0 e') at h))

-- the first link of an arc is that from its from to its to
pub link_of_arc : (t : Fields) → Right t → (k : ℕ) → IsArc t k → link_of t (arc_at t k).from (arc_at t k).to ≡ link_place t k
link_of_arc t g zero r = absurd (omega arith)
link_of_arc t g (suc k) r = link_of_forth t (arc_at t (suc k)).from (arc_at t (suc k)).to k (arc_of_arc t g (suc k) r)

-- the second is that back, if the arc has one
pub link_of_back : (t : Fields) → Right t → (k : ℕ) → IsArc t k → has_back t k ≡ true → link_of t (arc_at t k).to (arc_at t k).from ≡ link_place t k + link_size
unfolding has_back
link_of_back t g k r h =
    link_of_none t (arc_at t k).to (arc_at t k).from (eqb-true (arc_of t (arc_at t k).to (arc_at t k).from) 0 h)
    ∙ ap (λ (x : ℕ). link_place t x + link_size) (arc_of_arc t g k r)

-- the ends of an arc are neighbours
pub neighbours_arc : (t : Fields) (k : ℕ) → IsArc t k → neighbours (waits_of t) (arc_at t k).from (arc_at t k).to ≡ true
unfolding neighbours
neighbours_arc t k r = or_left _ _ ((waits_of_P t (arc_at t k).from (arc_at t k).to).1 (k, r, refl, refl))
