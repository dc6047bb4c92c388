-- The test of row 6 is exact: all chains followed in turn, with M arcs left at first, end with none left if and only if each chain
-- meets its own arcs, each once. An arc met twice or a foreign one makes the walk wrong, and a missed one is left over.
--   chains_right_listed  == the test passed: each chain is listed
--   chains_right_faulty  == the test failed: some chain is faulty
--   right_faulty        == a chain that meets the layout is not faulty
--   listed_right        == a listed chain meets the layout
-- Assumes nothing.
use Rattle.std.specs.Prelude.{ℕ, zero, suc, ◌+◌, ◌*◌, ◌≤◌, ◌<◌, Bool, true, List, ◌≡◌, eqb, leb, length, get_or}
use Rattle.std.proofs.Math.Bool.{false}
use Rattle.std.proofs.lemmas.Bool.{false≢true}
use Rattle.std.proofs.Common.{inl, ⊎_elim, sym, ap, ◌∙◌, subst, leb-true, leb-false, eqb-true}
use Rattle.std.proofs.Math.Logic.{inr}
use Rattle.std.proofs.Math.Path.{refl}
use native.Mathlib.Omega.{arith}
use Rattle.base.specs.Choice.{bit}
use Rattle.base.specs.ChoiceLaws.{same?, tested, bit_same, bit_apart}
use Rattle.base.specs.Checks.{Same, same, apart, Tested, passed, failed}
use Rattle.base.specs.Sums.{sum_to, any_to}
use Rattle.base.specs.SumLaws.{sum_to_cong, sum_to_add, sum_to_zero, sum_to_part, sum_to_most, sum_to_swap, any_to_of, any_to_found, sum_to_some}
use Rattle.base.specs.Sums.{Found, Part}
use Rattle.base.specs.SumLaws.{sum_to_one, sum_to_full, sum_to_least}
use Rattle.base.specs.Counts.{occ, InRange}
use Rattle.base.specs.CountLaws.{occ_of, occ_found, occ_twice, occ_once, occ_length}
use Rattle.base.specs.Counts.{Standing, StandingTwice}
use Rattle.tables.specs.declared.Chain.{Chain}
use Rattle.tables.specs.declared.Chain.TheVariants.{Out, In}
use Rattle.tables.specs.Table.{Fields, n_of, m_of, IsProcess, first, arc_at, near, next, place}
use Rattle.tables.specs.Layout.{IsArc, Ends, Meets, ChainRight, Twice, Foreign, Misses, Faulty}
use Rattle.tables.specs.Reading.{Left, left, wrong, walked, then_walked, walked_to, none_left, chains_right}
use Rattle.tables.specs.Chains.{Follows, along, met, Own, Inside, Listed}
use Rattle.tables.specs.ChainLaws.{place_steps, along_steps, along_arcs, follows_along, follows_steps, follows_once, walked_left}
use Rattle.tables.specs.ChainFacts.{WalkedLeft}
use Rattle.tables.specs.ChainLaws.{walked_wrong}
use Rattle.tables.specs.ChainFacts.{ForeignAt, ManyAt}

pub inside_of : (t : Fields) → ((k : ℕ) → IsArc t k → Ends t k) → ((c : Chain) (p : ℕ) → IsProcess (n_of t) p → first c t p ≤ m_of t)
    → ((c : Chain) (k : ℕ) → IsArc t k → next c (arc_at t k) ≤ m_of t) → (c : Chain) → Inside c t
unfolding near
inside_of t ends firsts nexts Out = record { firsts = firsts Out; nexts = nexts Out; nears = λ k r. (ends k r).0 }
inside_of t ends firsts nexts In = record { firsts = firsts In; nexts = nexts In; nears = λ k r. (ends k r).1 }

-- a chain cannot be right and faulty
pub right_faulty : (c : Chain) (t : Fields) (p : ℕ) → ChainRight c t p → Faulty c t p → ⊥
right_faulty c t p r f = ⊎_elim twice (λ g. ⊎_elim foreign misses g) f
  where
    twice : Twice c t p → ⊥
    twice w = omega (arith, r.once w.0 w.1 w.2 w.4 w.5)

    foreign : Foreign c t p → ⊥
    foreign w = w.3 (r.nothing_else w.0 w.1 w.2).1

    misses : Misses c t p → ⊥
    misses w = let m = r.each w.0 w.1 w.2 in w.3 m.0 m.1

-- ---- the chains of 1 to p, walked to their ends

-- how many arcs the chains of 1 to p meet, and how often they meet arc k
abbrev lengths : Chain → Fields → ℕ → ℕ
lengths c t p = sum_to p (λ q. length (met c t q))

abbrev meetings : Chain → Fields → ℕ → ℕ → ℕ
meetings c t p k = sum_to p (λ q. occ k (met c t q))

-- the chain of p ends and meets only its own arcs
record Ended (c : Chain) (t : Fields) (p : ℕ) : Type 0 where
  follows : Follows c t (first c t p) (met c t p)
  own : Own c t p (met c t p)

record EndedTo (c : Chain) (t : Fields) (p r : ℕ) : Type 0 where
  ended : (q : ℕ) → 1 ≤ q → q ≤ p → Ended c t q
  count : lengths c t p + r ≡ m_of t

-- a walk that came to the end with at most M arcs at first has met all that the chain meets
met_walked : (c : Chain) (t : Fields) (p l r : ℕ) → WalkedLeft c t p l (first c t p) r → l ≤ m_of t → met c t p ≡ along c t l (first c t p)
unfolding met
met_walked c t p l r w u = follows_along (m_of t) w.follows (omega arith)

ended_walked : (c : Chain) (t : Fields) (p l r : ℕ) → WalkedLeft c t p l (first c t p) r → l ≤ m_of t → Ended c t p
ended_walked c t p l r w u = let e = met_walked c t p l r w u in record { follows = rw e w.follows; own = rw e w.own }

walked_to_left : (c : Chain) (t : Fields) (p r : ℕ) → walked_to c t p ≡ left r → EndedTo c t p r
unfolding walked_to sum_to
walked_to_left c t zero r e = let z : m_of t ≡ r = cc in record { ended = λ q l u. absurd (omega arith); count = omega arith }
walked_to_left c t (suc p) r e = at (walked_to c t p) refl e (walked_to_left c t p)
  where
    more : (l : ℕ) → EndedTo c t p l → WalkedLeft c t (suc p) l (first c t (suc p)) r → EndedTo c t (suc p) r
    more l f w =
        let few : l ≤ m_of t = omega arith in
        let long : length (met c t (suc p)) ≡ length (along c t l (first c t (suc p))) = ap length (met_walked c t (suc p) l r w few) in
        record { ended = λ q a b. within q a b (same? q (suc p)); count = omega arith }
      where
        within : (q : ℕ) → 1 ≤ q → q ≤ suc p → Same q (suc p) → Ended c t q
        within q a b (same s _) = rw s (ended_walked c t (suc p) l r w (omega arith))
        within q a b (apart s _) = f.ended q a (omega arith)

    at : (x : Left) → walked_to c t p ≡ x → then_walked c t (suc p) x ≡ left r → ((l : ℕ) → walked_to c t p ≡ left l → EndedTo c t p l) → EndedTo c t (suc p) r
    at (left l) q e' rest = more l (rest l q) (walked_left c t (suc p) l (first c t (suc p)) r e')
    at wrong q e' rest = let z : ◌≡◌ {A = ℕ} 0 1 = cc in absurd (omega arith)

-- the walk went wrong at some chain, when it had come to the end of all before it
record WentWrong (c : Chain) (t : Fields) (p : ℕ) : Type 0 where
  before : ℕ
  rest : ℕ
  high : before < p
  ended : walked_to c t before ≡ left rest
  here : walked c t (suc before) rest (first c t (suc before)) ≡ wrong

walked_to_wrong : (c : Chain) (t : Fields) (p : ℕ) → walked_to c t p ≡ wrong → WentWrong c t p
unfolding walked_to
walked_to_wrong c t zero e = let z : ◌≡◌ {A = ℕ} 0 1 = cc in absurd (omega arith)
walked_to_wrong c t (suc p) e = at (walked_to c t p) refl e (walked_to_wrong c t p)
  where
    later : WentWrong c t p → WentWrong c t (suc p)
    later w = record { before = w.before; rest = w.rest; high = omega arith; ended = w.ended; here = w.here }

    at : (x : Left) → walked_to c t p ≡ x → then_walked c t (suc p) x ≡ wrong → (walked_to c t p ≡ wrong → WentWrong c t p) → WentWrong c t (suc p)
    at (left l) q e' more = record { before = p; rest = l; high = omega arith; ended = q; here = e' }
    at wrong q e' more = later (more q)

-- no arc is left
none_left_zero : (x : Left) → none_left x ≡ true → x ≡ left 0
none_left_zero (left zero) e = refl
none_left_zero (left (suc l)) e = absurd (false≢true e)
none_left_zero wrong e = absurd (false≢true e)

-- ---- counting: how often arcs are met

module _ (c : Chain) (t : Fields) (inside : Inside c t) where
  met_range : (p : ℕ) → IsProcess (n_of t) p → InRange (met c t p) (m_of t)
  unfolding met
  met_range p q k h = along_arcs c t inside.nexts (m_of t) (first c t p) (inside.firsts p q) k h

  -- all meetings of all arcs are as many as the chains are long
  meetings_lengths : (p : ℕ) → p ≤ n_of t → sum_to (m_of t) (λ k. meetings c t p k) ≡ lengths c t p
  meetings_lengths p u =
      sum_to_swap (m_of t) p (λ k q. occ k (met c t q))
      ∙ sum_to_cong p (λ q. sum_to (m_of t) (λ k. occ k (met c t q))) (λ q. length (met c t q))
      (λ q a b. occ_length (m_of t) (met c t q) (met_range q (a, omega arith)))

  -- chains that end meet an arc at most once between them
  meetings_one : (p : ℕ) → ((q : ℕ) → 1 ≤ q → q ≤ p → Ended c t q) → (k : ℕ) → meetings c t p k ≤ 1
  meetings_one p ended k =
      sum_to_one p (λ q. occ k (met c t q)) (λ q a b. follows_once k (ended q a b).follows)
      (λ i j a b a' b' h h'. sym ((ended i a b).own k h) ∙ (ended j a' b').own k h')

  -- ---- the test passed

  pub chains_right_listed : chains_right c t ≡ true → (p : ℕ) → IsProcess (n_of t) p → Listed c t p (met c t p)
  unfolding chains_right
  chains_right_listed e p range =
      record {
        follows = mine.follows;
        arcs = met_range p range;
        own = mine.own;
        short = omega (arith, part, all.count);
        counts = λ k a. at k a (same? (near c (arc_at t k)) p);
      }
    where
      all : EndedTo c t (n_of t) 0
      all = walked_to_left c t (n_of t) 0 (none_left_zero (walked_to c t (n_of t)) e)

      mine : Ended c t p
      mine = all.ended p range.0 range.1

      part : length (met c t p) ≤ lengths c t (n_of t)
      part = sum_to_part (n_of t) (λ q. length (met c t q)) p range.0 range.1

      full : (k : ℕ) → IsArc t k → meetings c t (n_of t) k ≡ 1
      full k a =
          sum_to_full (m_of t) (λ j. meetings c t (n_of t) j) (λ j u v. meetings_one (n_of t) all.ended j)
          (omega (arith, meetings_lengths (n_of t) (omega arith), all.count)) k a.0 a.1

      some : (k : ℕ) → IsArc t k → near c (arc_at t k) ≡ p → Part (n_of t) (λ q. occ k (met c t q)) → 1 ≤ occ k (met c t p)
      some k a s q = subst (λ (x : ℕ). 1 ≤ occ k (met c t x)) (sym ((all.ended q.at q.low q.high).own k q.some) ∙ s) q.some

      at : (k : ℕ) → IsArc t k → Same (near c (arc_at t k)) p → occ k (met c t p) ≡ bit (eqb (near c (arc_at t k)) p)
      at k a (same s _) =
          let least : 1 ≤ occ k (met c t p) = some k a s (sum_to_some (n_of t) (λ q. occ k (met c t q)) (omega (arith, full k a))) in
          omega (arith, follows_once k mine.follows, bit_same (near c (arc_at t k)) p s)
      at k a (apart s _) = none (same? (occ k (met c t p)) 0)
        where
          none : Same (occ k (met c t p)) 0 → occ k (met c t p) ≡ bit (eqb (near c (arc_at t k)) p)
          none (same o _) = omega (arith, bit_apart (near c (arc_at t k)) p s)
          none (apart o _) = absurd (s (mine.own k (omega arith)))

  -- ---- the test failed

  -- the chain of p has one arc more than are left: it meets one of them twice
  many_twice : (p r : ℕ) → p < n_of t → EndedTo c t p r → ManyAt c t (suc p) r (first c t (suc p)) → Twice c t (suc p)
  many_twice p r u f m = at (tested (any_to (m_of t) again))
    where
      ks : List ℕ
      ks = along c t (suc r) (first c t (suc p))

      again : ℕ → Bool
      again k = leb 2 (occ k ks)

      range : InRange ks (m_of t)
      range k h = along_arcs c t inside.nexts (suc r) (first c t (suc p)) (inside.firsts (suc p) (omega arith, u)) k h

      place_is : (i k : ℕ) → i < suc r → get_or ks i 0 ≡ k → place c t (suc p) i ≡ k
      place_is i k h e = place_steps c t (suc p) i ∙ sym (along_steps c t (suc r) (first c t (suc p)) i h) ∙ e

      found : Found (m_of t) again → Twice c t (suc p)
      found q =
          let s : StandingTwice q.at ks = occ_twice ks q.at (leb-true 2 (occ q.at ks) q.passes) in
          let high : s.later < suc r = omega (arith, m.0) in
          (s.at, s.later, q.at, s.order, (place_is s.at q.at (omega arith) s.is, q.low), (place_is s.later q.at high s.again, q.low))

      one : any_to (m_of t) again ≡ false → (k : ℕ) → IsArc t k → Tested (again k) → occ k ks ≤ 1
      one e k a (passed q) = absurd (false≢true (sym e ∙ any_to_of (m_of t) again k a.0 a.1 q))
      one e k a (failed q) = omega (arith, leb-false 2 (occ k ks) q)

      both : any_to (m_of t) again ≡ false → (k : ℕ) → IsArc t k → Same (occ k ks) 0 → meetings c t p k + occ k ks ≤ 1
      both e k a (same o _) = omega (arith, meetings_one p f.ended k)
      both e k a (apart o _) =
          let off : meetings c t p k ≡ 0 = sum_to_zero p (λ q. occ k (met c t q)) (λ q l h. others q l h (same? (occ k (met c t q)) 0)) in
          omega (arith, one e k a (tested (again k)))
        where
          others : (q : ℕ) → 1 ≤ q → q ≤ p → Same (occ k (met c t q)) 0 → occ k (met c t q) ≡ 0
          others q l h (same o' _) = o'
          others q l h (apart o' _) = absurd (omega (arith, (f.ended q l h).own k (omega arith), m.1 k (omega arith)))

      at : Tested (any_to (m_of t) again) → Twice c t (suc p)
      at (passed e) = found (any_to_found (m_of t) again e)
      at (failed e) =
          let most : sum_to (m_of t) (λ k. meetings c t p k + occ k ks) ≤ 1 * m_of t =
          sum_to_most (m_of t) 1 (λ k. meetings c t p k + occ k ks) (λ k a b. both e k (a, b) (same? (occ k ks) 0)) in
          let parts = sum_to_add (m_of t) (λ k. meetings c t p k) (λ k. occ k ks) in
          absurd (omega (arith, meetings_lengths p (omega arith), occ_length (m_of t) ks range, m.0))

  wrong_faulty : (w : WentWrong c t (n_of t)) → Faulty c t (suc w.before)
  wrong_faulty w =
      ⊎_elim (λ f. inr (inl (foreign f))) (λ m. inl (many_twice w.before w.rest w.high (walked_to_left c t w.before w.rest w.ended) m))
      (walked_wrong c t (suc w.before) w.rest (first c t (suc w.before)) w.here)
    where
      foreign : ForeignAt c t (suc w.before) (first c t (suc w.before)) → Foreign c t (suc w.before)
      foreign f = (f.0, suc f.1, (place_steps c t (suc w.before) f.0 ∙ f.2, omega arith), f.3)

  -- arcs are left over: the chain of one's near end misses it
  left_misses : (r : ℕ) → EndedTo c t (n_of t) (suc r) → (p : ℕ) × IsProcess (n_of t) p × Misses c t p
  left_misses r f = at (tested (any_to (m_of t) unmet))
    where
      unmet : ℕ → Bool
      unmet k = eqb (meetings c t (n_of t) k) 0

      least : any_to (m_of t) unmet ≡ false → (k : ℕ) → IsArc t k → Same (meetings c t (n_of t) k) 0 → 1 ≤ meetings c t (n_of t) k
      least e k a (same o q) = absurd (false≢true (sym e ∙ any_to_of (m_of t) unmet k a.0 a.1 q))
      least e k a (apart o q) = omega arith

      found : Found (m_of t) unmet → (p : ℕ) × IsProcess (n_of t) p × Misses c t p
      found q = (p, range, (q.at, (q.low, q.high), refl, nowhere))
        where
          p : ℕ
          p = near c (arc_at t q.at)

          range : IsProcess (n_of t) p
          range = inside.nears q.at (q.low, q.high)

          nowhere : (i : ℕ) → Meets c t p i q.at → ⊥
          nowhere i m =
              let stands : get_or (met c t p) i 0 ≡ q.at =
              sym (follows_steps i (f.ended p range.0 range.1).follows) ∙ sym (place_steps c t p i) ∙ m.0 in
              let none : meetings c t (n_of t) q.at ≡ 0 = eqb-true (meetings c t (n_of t) q.at) 0 q.passes in
              let part = sum_to_part (n_of t) (λ x. occ q.at (met c t x)) p range.0 range.1 in
              omega (arith, occ_of (met c t p) i q.at stands q.low)

      at : Tested (any_to (m_of t) unmet) → (p : ℕ) × IsProcess (n_of t) p × Misses c t p
      at (passed e) = found (any_to_found (m_of t) unmet e)
      at (failed e) =
          let some = sum_to_least (m_of t) (λ k. meetings c t (n_of t) k) (λ k a b. least e k (a, b) (same? (meetings c t (n_of t) k) 0)) in
          absurd (omega (arith, meetings_lengths (n_of t) (omega arith), f.count))

  pub chains_right_faulty : chains_right c t ≡ false → (p : ℕ) × IsProcess (n_of t) p × Faulty c t p
  unfolding chains_right
  chains_right_faulty e = at (walked_to c t (n_of t)) refl e
    where
      at : (x : Left) → walked_to c t (n_of t) ≡ x → none_left x ≡ false → (p : ℕ) × IsProcess (n_of t) p × Faulty c t p
      at (left zero) q h = absurd (false≢true (sym h))
      at (left (suc r)) q h = let m = left_misses r (walked_to_left c t (n_of t) (suc r) q) in (m.0, m.1, inr (inr m.2))
      at wrong q h = let w = walked_to_wrong c t (n_of t) q in (suc w.before, (omega arith, w.high), wrong_faulty w)

-- ---- a listed chain

pub listed_right : (c : Chain) (t : Fields) (p : ℕ) (ks : List ℕ) → Listed c t p ks → ChainRight c t p
listed_right c t p ks s =
    record {
      each = λ k a e. found k a (occ_found ks k (omega (arith, s.counts k a, bit_same (near c (arc_at t k)) p e)));
      once = λ i j k m m'. occ_once ks k i j (follows_once k s.follows) m.1 (stands i k m) (stands j k m');
      nothing_else = λ i k m. let o = occ_of ks i k (stands i k m) m.1 in (s.arcs k o, s.own k o);
    }
  where
    stands : (i k : ℕ) → Meets c t p i k → get_or ks i 0 ≡ k
    stands i k m = sym (follows_steps i s.follows) ∙ sym (place_steps c t p i) ∙ m.0

    found : (k : ℕ) → IsArc t k → Standing k ks → (i : ℕ) × Meets c t p i k
    found k a q = (q.at, (place_steps c t p q.at ∙ follows_steps q.at s.follows ∙ q.is, a.0))
