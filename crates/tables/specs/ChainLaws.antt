-- Laws of chains: following is a function, a chain that ends meets no arc twice, and what the test of row 6 finds.
--   follows_same, follows_once   == a chain that ends has one list, and no arc stands in it twice
--   follows_steps, place_steps   == the arcs of the list are those at the places of the chain
--   follows_end, follows_on      == from 0 on there is nothing; from an arc on, the arc and what follows from its next field
--   along_steps, along_arcs, follows_along   == at most l arcs of a chain: which they are, that they are arcs, and when they are all
--   walked_left, walked_wrong    == what a walk with a number of arcs left says of the chain
-- Assumes nothing.
use Rattle.std.specs.Prelude.{ℕ, zero, suc, ◌+◌, ◌≤◌, ◌<◌, List, [], ◌∷◌, ◌⊎◌, ◌≡◌, refl, eqb, length, get_or}
use Rattle.std.proofs.Common.{inl, inr, ⊎_elim, sym, ap, ◌∙◌, subst, arith}
use Rattle.base.specs.Choice.{bit}
use Rattle.base.specs.ChoiceLaws.{bit_≤1, same?, bit_apart}
use Rattle.base.specs.Checks.{Same, same, apart}
use Rattle.base.specs.Counts.{occ}
use Rattle.tables.specs.declared.Chain.{Chain}
use Rattle.tables.specs.Table.{Fields, m_of, first, arc_at, near, next, follow, place}
use Rattle.tables.specs.Layout.{IsArc}
use Rattle.tables.specs.Reading.{left, wrong, walked}
use Rattle.tables.specs.Chains.{Follows, stop, go, steps, along, Own}
use Rattle.tables.specs.ChainFacts.{Onward, Rest, WalkedLeft, ForeignAt, ManyAt}

-- ---- steps

steps_zero : (c : Chain) (t : Fields) (i : ℕ) → steps c t 0 i ≡ 0
unfolding steps follow
steps_zero c t zero = refl
steps_zero c t (suc i) = steps_zero c t i

steps_after : (c : Chain) (t : Fields) (k i : ℕ) → steps c t (follow c t k) i ≡ follow c t (steps c t k i)
unfolding steps
steps_after c t k zero = refl
steps_after c t k (suc i) = steps_after c t (follow c t k) i

pub place_steps : (c : Chain) (t : Fields) (p i : ℕ) → place c t p i ≡ steps c t (first c t p) i
unfolding place steps
place_steps c t p zero = refl
place_steps c t p (suc i) = ap (follow c t) (place_steps c t p i) ∙ sym (steps_after c t (first c t p) i)

-- ---- along

pub along_steps : (c : Chain) (t : Fields) (l k i : ℕ) → i < l → get_or (along c t l k) i 0 ≡ steps c t k i
unfolding along steps follow
along_steps c t zero k i h = absurd (omega arith)
along_steps c t (suc l) zero i h = sym (steps_zero c t i)
along_steps c t (suc l) (suc k) zero h = refl
along_steps c t (suc l) (suc k) (suc i) h = along_steps c t l (next c (arc_at t (suc k))) i (omega arith)

-- where no next field is over M, a chain that begins within 1 to M stays there
pub along_arcs : (c : Chain) (t : Fields) → ((k : ℕ) → IsArc t k → next c (arc_at t k) ≤ m_of t) → (l k : ℕ) → k ≤ m_of t → (j : ℕ)
    → 1 ≤ occ j (along c t l k) → IsArc t j
unfolding along occ
along_arcs c t nexts zero k u j h = absurd (omega arith)
along_arcs c t nexts (suc l) zero u j h = absurd (omega arith)
along_arcs c t nexts (suc l) (suc k) u j h = at (same? (suc k) j) (along_arcs c t nexts l (next c (arc_at t (suc k))) (nexts (suc k) (omega arith, u)) j)
  where
    at : Same (suc k) j → (1 ≤ occ j (along c t l (next c (arc_at t (suc k)))) → IsArc t j) → IsArc t j
    at (same e _) more = (omega arith, omega arith)
    at (apart e _) more = more (omega (arith, bit_apart (suc k) j e))

-- ---- Follows

pub follows_along : {c : Chain} {t : Fields} {k : ℕ} {ks : List ℕ} (l : ℕ) → Follows c t k ks → length ks ≤ l → along c t l k ≡ ks
unfolding along
follows_along zero stop h = refl
follows_along (suc l) stop h = refl
follows_along zero (go f) h = absurd (omega arith)
follows_along {c = c} {t = t} (suc l) (go {k = k} {ks = ks} f) h =
    ap {B = List ℕ} (λ r. suc k ∷ r) (follows_along {k = next c (arc_at t (suc k))} l f (omega arith))

follows_same : {c : Chain} {t : Fields} {k : ℕ} {ks ks' : List ℕ} → Follows c t k ks → Follows c t k ks' → ks ≡ ks'
follows_same {ks = ks} {ks' = ks'} f f' =
    sym (follows_along (length ks + length ks') f (omega arith)) ∙ follows_along (length ks + length ks') f' (omega arith)

pub follows_steps : {c : Chain} {t : Fields} {k : ℕ} {ks : List ℕ} (i : ℕ) → Follows c t k ks → steps c t k i ≡ get_or ks i 0
unfolding steps follow
follows_steps {c} {t} i stop = steps_zero c t i
follows_steps zero (go f) = refl
follows_steps (suc i) (go f) = follows_steps i f

-- from 0 on there is nothing, and from an arc on the arc and what follows from its next field
pub follows_end : {c : Chain} {t : Fields} {ks : List ℕ} → Follows c t 0 ks → ks ≡ []
follows_end f = follows_same f stop

pub follows_on : {c : Chain} {t : Fields} {k : ℕ} {ks : List ℕ} → Follows c t (suc k) ks → Onward c t k ks
follows_on (go {ks = rest} f) = record { rest = rest; is = refl; follows = f }

follows_rest : {c : Chain} {t : Fields} {k : ℕ} {ks : List ℕ} (j : ℕ) → Follows c t k ks → 1 ≤ occ j ks → Rest c t j ks
unfolding occ
follows_rest j stop h = absurd (omega arith)
follows_rest {c} {t} j (go {k} {ks} f) h = at (same? (suc k) j) (follows_rest j f)
  where
    longer : Rest c t j ks → Rest c t j (suc k ∷ ks)
    longer r = record { arcs = r.arcs; follows = r.follows; short = omega arith }

    at : Same (suc k) j → (1 ≤ occ j ks → Rest c t j ks) → Rest c t j (suc k ∷ ks)
    at (same e _) more = record { arcs = suc k ∷ ks; follows = subst (λ (x : ℕ). Follows c t x (suc k ∷ ks)) e (go f); short = omega arith }
    at (apart e _) more = longer (more (omega (arith, bit_apart (suc k) j e)))

-- an arc met twice would have two lists from there on
pub follows_once : {c : Chain} {t : Fields} {k : ℕ} {ks : List ℕ} (j : ℕ) → Follows c t k ks → occ j ks ≤ 1
unfolding occ
follows_once j stop = omega arith
follows_once {c} {t} j (go {k} {ks} f) = at (same? (suc k) j) (same? (occ j ks) 0) (follows_once j f)
  where
    longer : suc k ≡ j → Rest c t j ks → ⊥
    longer e r =
        let here : Follows c t j (suc k ∷ ks) = subst (λ (x : ℕ). Follows c t x (suc k ∷ ks)) e (go f) in
        let lengths : length r.arcs ≡ length (suc k ∷ ks) = ap length (follows_same r.follows here) in
        omega arith

    at : Same (suc k) j → Same (occ j ks) 0 → occ j ks ≤ 1 → bit (eqb (suc k) j) + occ j ks ≤ 1
    at (same e _) (same o _) rest = omega (arith, bit_≤1 (eqb (suc k) j))
    at (same e _) (apart o _) rest = absurd (longer e (follows_rest j f (omega arith)))
    at (apart e _) o rest = omega (arith, bit_apart (suc k) j e)

-- ---- walked

own_none : (c : Chain) (t : Fields) (p : ℕ) → Own c t p []
unfolding occ
own_none c t p j h = absurd (omega arith)

own_more : (c : Chain) (t : Fields) (p k : ℕ) (ks : List ℕ) → near c (arc_at t k) ≡ p → Own c t p ks → Own c t p (k ∷ ks)
unfolding occ
own_more c t p k ks e own j h = at (same? k j)
  where
    at : Same k j → near c (arc_at t j) ≡ p
    at (same q _) = subst (λ (x : ℕ). near c (arc_at t x) ≡ p) q e
    at (apart q _) = own j (omega (arith, bit_apart k j q))

pub walked_left : (c : Chain) (t : Fields) (p l k r : ℕ) → walked c t p l k ≡ left r → WalkedLeft c t p l k r
unfolding walked along occ
walked_left c t p zero zero r e = let z : 0 ≡ r = cc in record { follows = stop; count = omega arith; own = own_none c t p }
walked_left c t p zero (suc k) r e = let z : ◌≡◌ {A = ℕ} 0 1 = cc in absurd (omega arith)
walked_left c t p (suc l) zero r e = let z : suc l ≡ r = cc in record { follows = stop; count = omega arith; own = own_none c t p }
walked_left c t p (suc l) (suc k) r e = at (same? (near c (arc_at t (suc k))) p) (walked_left c t p l (next c (arc_at t (suc k))) r)
  where
    more : near c (arc_at t (suc k)) ≡ p → WalkedLeft c t p l (next c (arc_at t (suc k))) r → WalkedLeft c t p (suc l) (suc k) r
    more q w = record { follows = go w.follows; count = omega arith; own = own_more c t p (suc k) (along c t l (next c (arc_at t (suc k)))) q w.own }

    at : Same (near c (arc_at t (suc k))) p → (walked c t p l (next c (arc_at t (suc k))) ≡ left r → WalkedLeft c t p l (next c (arc_at t (suc k))) r)
        → WalkedLeft c t p (suc l) (suc k) r
    at (same q b) rest = more q (rest (rw b at e))
    at (apart q b) rest = let e' : wrong ≡ left r = rw b at e in let z : ◌≡◌ {A = ℕ} 0 1 = cc in absurd (omega arith)

-- the walk went wrong: at a foreign arc, or at one arc too many
pub walked_wrong : (c : Chain) (t : Fields) (p l k : ℕ) → walked c t p l k ≡ wrong → ForeignAt c t p k ⊎ ManyAt c t p l k
unfolding walked along steps follow
walked_wrong c t p zero zero e = let z : ◌≡◌ {A = ℕ} 0 1 = cc in absurd (omega arith)
walked_wrong c t p zero (suc k) e = at (same? (near c (arc_at t (suc k))) p)
  where
    at : Same (near c (arc_at t (suc k))) p → ForeignAt c t p (suc k) ⊎ ManyAt c t p 0 (suc k)
    at (same q b) = inr (refl, own_more c t p (suc k) [] q (own_none c t p))
    at (apart q b) = inl (0, k, refl, q)
walked_wrong c t p (suc l) zero e = let z : ◌≡◌ {A = ℕ} 0 1 = cc in absurd (omega arith)
walked_wrong c t p (suc l) (suc k) e = at (same? (near c (arc_at t (suc k))) p) (walked_wrong c t p l onward)
  where
    onward : ℕ
    onward = next c (arc_at t (suc k))

    foreign : ForeignAt c t p onward → ForeignAt c t p (suc k)
    foreign f = (suc f.0, f.1, f.2, f.3)

    many : near c (arc_at t (suc k)) ≡ p → ManyAt c t p l onward → ManyAt c t p (suc l) (suc k)
    many q m = (ap suc m.0, own_more c t p (suc k) (along c t (suc l) onward) q m.1)

    at : Same (near c (arc_at t (suc k))) p → (walked c t p l onward ≡ wrong → ForeignAt c t p onward ⊎ ManyAt c t p l onward)
        → ForeignAt c t p (suc k) ⊎ ManyAt c t p (suc l) (suc k)
    at (same q b) rest = ⊎_elim (λ f. inl (foreign f)) (λ m. inr (many q m)) (rest (rw b at e))
    at (apart q b) rest = inl (0, k, refl, q)
