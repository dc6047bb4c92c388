-- Check 7 along the out-chains: a walk along the chain of p notes p at each process that the chain leads to, and finds p noted already exactly if
-- two arcs of p agree in both ends.
--   Going t p k ls    == the walk is at arc k, or at the end, and ls is what is noted
--   going_first, going_next, going_clash, going_end   == where it begins; one arc more; an arc that leads where one before it does; at the end
--   Ahead, going_ahead   == what is known at an arc
--   told_all, told_clash   == check 7 by the walks along all chains, and by one that found something
-- Assumes nothing.
use Prim.Native.Nat.{ℕ, zero, suc, ◌+◌, ◌≤◌, ◌<◌}
use mathlib.Core.Bool.{true, false}
use mathlib.Core.List.{List, [], ◌∷◌}
use mathlib.Core.Path.{◌≡◌, refl, sym, ap, ◌∙◌, subst}
use native.Mathlib.Omega.{arith}
use lib.Dec.{eqb}
use lib.ListN.{length, get_or, set, length-set}
use lib.Seq.{get_or-set_same, get_or-set_other}
use Rattle.base.specs.Choice.{bit}
use Rattle.base.specs.ChoiceLaws.{same?, bit_same, bit_apart}
use Rattle.base.specs.Checks.{Same, same, apart}
use Rattle.base.specs.Sums.{all_to}
use Rattle.base.specs.SumLaws.{all_to_at}
use Rattle.base.specs.Counts.{occ}
use Rattle.tables.specs.declared.Chain.TheVariants.{Out}
use Rattle.tables.specs.Table.{Fields, n_of, m_of, most_processes, IsProcess, first, arc_at, near, next}
use Rattle.tables.specs.Layout.{IsArc, Ends}
use Rattle.tables.specs.LayoutLaws.{unlike_all, unlike_clash}
use Rattle.tables.specs.Reading.{ends_right, unlike_before}
use Rattle.tables.specs.Pairs.{square_side}
use Rattle.tables.specs.Chains.{Follows, along, met, Own, Listed}
use Rattle.tables.specs.ChainFacts.{Onward}
use Rattle.tables.specs.ChainLaws.{follows_along, follows_end, follows_on, follows_once}
use Rattle.tables.specs.ChainTestLaws.{inside_of, chains_right_listed}
use Rattle.table_reader.specs.Inner.{Chained, LastMet, Distinct, Clash}
use Rattle.table_reader.proofs.Checks.{ends_in, first_low, next_low}

-- the arcs of an out-chain from arc k on
abbrev pub to_go : Fields → ℕ → List ℕ
to_go t k = along Out t (m_of t) k

-- arc j is one of p's, and the walk, which is at arc k, has passed it
pub record Passed (t : Fields) (p k j : ℕ) : Type 0 where
  pub arc : IsArc t j
  pub own : (arc_at t j).from ≡ p
  pub gone : occ j (to_go t k) ≡ 0

pub record Going (t : Fields) (p k : ℕ) (ls : List ℕ) : Type 0 where
  pub follows : Follows Out t k (to_go t k)
  pub short : length (to_go t k) ≤ m_of t
  pub high : k ≤ m_of t
  pub mine : Own Out t p (to_go t k)
  pub long : length ls ≡ square_side
  pub low : (b : ℕ) → get_or ls b 0 ≤ p
  pub noted : (j : ℕ) → Passed t p k j → get_or ls (arc_at t j).to 0 ≡ p
  pub found : (b : ℕ) → get_or ls b 0 ≡ p → (j : ℕ) × Passed t p k j × ((arc_at t j).to ≡ b)
  pub unlike : (i j : ℕ) → Passed t p k i → Passed t p k j → (arc_at t i).to ≡ (arc_at t j).to → i ≡ j

-- what is known at arc k of the chain of p
pub record Ahead (t : Fields) (p k : ℕ) : Type 0 where
  pub arc : IsArc t k
  pub own : (arc_at t k).from ≡ p
  pub count : (i : ℕ) → occ i (to_go t k) ≡ bit (eqb k i) + occ i (to_go t (next Out (arc_at t k)))
  pub less : length (to_go t k) ≡ suc (length (to_go t (next Out (arc_at t k))))
  pub follows : Follows Out t (next Out (arc_at t k)) (to_go t (next Out (arc_at t k)))

module _ (t : Fields) (few : n_of t ≤ most_processes) (z : Chained t) where
  ends : (k : ℕ) → IsArc t k → Ends t k
  ends k a = ends_in t k (all_to_at (m_of t) (ends_right t) z.ends k a.0 a.1)

  listed : (p : ℕ) → IsProcess (n_of t) p → Listed Out t p (met Out t p)
  listed p r =
      chains_right_listed Out t (inside_of t ends (λ c q s. first_low c t q z.linked s) (λ c k a. next_low c t k z.linked a.0 a.1) Out)
      z.outs p r

  pub arc_to : (k : ℕ) → IsArc t k → (arc_at t k).to < square_side
  arc_to k a = omega (arith, few, (ends k a).1.1)

  module _ (p : ℕ) where
    pub going_first : IsProcess (n_of t) p → {ls : List ℕ} → LastMet p ls → {k : ℕ} → k ≡ first Out t p → Going t p k ls
    unfolding met near
    going_first r {ls} last e =
        rw e
        (record {
          follows = l.follows;
          short = l.short;
          high = first_low Out t p z.linked r;
          mine = l.own;
          long = last.long;
          low = λ b. omega (arith, last.low b);
          noted = λ j v. absurd (never j v);
          found = λ b q. absurd (omega (arith, last.low b));
          unlike = λ i j v w q. absurd (never i v);
        })
      where
        l : Listed Out t p (met Out t p)
        l = listed p r

        never : (j : ℕ) → Passed t p (first Out t p) j → ⊥
        never j v = omega (arith, l.counts j v.arc, v.gone, bit_same (arc_at t j).from p v.own)

    ahead : (j : ℕ) {ls : List ℕ} → Going t p (suc j) ls → Ahead t p (suc j)
    unfolding occ near
    ahead j g =
        let nx : ℕ = next Out (arc_at t (suc j)) in
        let o : Onward Out t j (to_go t (suc j)) = follows_on g.follows in
        let long : length (to_go t (suc j)) ≡ suc (length o.rest) = ap {A = List ℕ} length o.is in
        let rest : to_go t nx ≡ o.rest = follows_along (m_of t) o.follows (omega (arith, g.short)) in
        let is : to_go t (suc j) ≡ suc j ∷ to_go t nx = o.is ∙ ap {B = List ℕ} (λ ks. suc j ∷ ks) (sym rest) in
        let count : (i : ℕ) → occ i (to_go t (suc j)) ≡ bit (eqb (suc j) i) + occ i (to_go t nx) = λ i. ap {A = List ℕ} (occ i) is in
        record {
          arc = (omega arith, g.high);
          own = g.mine (suc j) (omega (arith, count (suc j), bit_same (suc j) (suc j) refl));
          count = count;
          less = ap {A = List ℕ} length is;
          follows = subst (λ (ks : List ℕ). Follows Out t nx ks) (sym rest) o.follows;
        }

    pub going_ahead : (k : ℕ) {ls : List ℕ} → Going t p k ls → (k ≡ 0 → ⊥) → Ahead t p k
    going_ahead zero g h = absurd (h refl)
    going_ahead (suc j) g h = ahead j g

    module _ {k : ℕ} {ls : List ℕ} (g : Going t p k ls) (some : k ≡ 0 → ⊥) where
      here : Ahead t p k
      here = going_ahead k g some

      pub going_clash : get_or ls (arc_at t k).to 0 ≡ p → Clash t
      going_clash e =
          let f = g.found (arc_at t k).to e in
          let j = f.0 in
          let v = f.1 in (
            j,
            k,
            v.arc,
            here.arc,
            (v.own ∙ sym here.own, f.2),
            λ q. omega (arith, ap (λ (i : ℕ). occ i (to_go t k)) q, v.gone, here.count k, bit_same k k refl),
          )

      pub going_next : (get_or ls (arc_at t k).to 0 ≡ p → ⊥) → Going t p (next Out (arc_at t k)) (set ls (arc_at t k).to p)
      going_next new =
          record {
            follows = here.follows;
            short = omega (arith, g.short, here.less);
            high = next_low Out t k z.linked here.arc.0 here.arc.1;
            mine = λ j o. g.mine j (omega (arith, here.count j));
            long = length-set ls to p ∙ g.long;
            low = λ b. low b (same? to b);
            noted = λ j v. noted j v (same? to (arc_at t j).to);
            found = λ b e. found b e (same? to b);
            unlike = λ i j v w e. unlike i j v w e (same? k i) (same? k j);
          }
        where
          to : ℕ
          to = (arc_at t k).to

          nx : ℕ
          nx = next Out (arc_at t k)

          inside : to < length ls
          inside = omega (arith, arc_to k here.arc, g.long)

          put_here : {b : ℕ} → to ≡ b → get_or (set ls to p) b 0 ≡ p
          put_here e = rw (← e) (get_or-set_same ls to p 0 inside)

          put_other : {b : ℕ} → (to ≡ b → ⊥) → get_or (set ls to p) b 0 ≡ get_or ls b 0
          put_other {b} d = get_or-set_other ls to b p 0 (λ e. d (sym e))

          -- what was passed, before this arc and after it
          before : (j : ℕ) → Passed t p nx j → (k ≡ j → ⊥) → Passed t p k j
          before j v d = record { arc = v.arc; own = v.own; gone = omega (arith, here.count j, v.gone, bit_apart k j d) }

          after : (j : ℕ) → Passed t p k j → Passed t p nx j
          after j v = record { arc = v.arc; own = v.own; gone = omega (arith, here.count j, v.gone) }

          this : Passed t p nx k
          this =
              record {
                arc = here.arc;
                own = here.own;
                gone = omega (arith, here.count k, follows_once k g.follows, bit_same k k refl);
              }

          low : (b : ℕ) → Same to b → get_or (set ls to p) b 0 ≤ p
          low b (same e _) = omega (arith, put_here e)
          low b (apart d _) = omega (arith, put_other d, g.low b)

          noted : (j : ℕ) → Passed t p nx j → Same to (arc_at t j).to → get_or (set ls to p) (arc_at t j).to 0 ≡ p
          noted j v (same e _) = put_here e
          noted j v (apart d _) = put_other d ∙ g.noted j (before j v (λ e. d (ap (λ (i : ℕ). (arc_at t i).to) e)))

          found : (b : ℕ) → get_or (set ls to p) b 0 ≡ p → Same to b → (j : ℕ) × Passed t p nx j × ((arc_at t j).to ≡ b)
          found b e (same q _) = (k, this, q)
          found b e (apart d _) = let f = g.found b (sym (put_other d) ∙ e) in (f.0, after f.0 f.1, f.2)

          unlike : (i j : ℕ) → Passed t p nx i → Passed t p nx j → (arc_at t i).to ≡ (arc_at t j).to → Same k i → Same k j → i ≡ j
          unlike i j v w e (same q _) (same r _) = sym q ∙ r
          unlike i j v w e (same q _) (apart d _) =
              absurd (new (ap (λ (b : ℕ). get_or ls b 0) (ap (λ (x : ℕ). (arc_at t x).to) q ∙ e) ∙ g.noted j (before j w d)))
          unlike i j v w e (apart d _) (same r _) =
              absurd (new (ap (λ (b : ℕ). get_or ls b 0) (ap (λ (x : ℕ). (arc_at t x).to) r ∙ sym e) ∙ g.noted i (before i v d)))
          unlike i j v w e (apart d _) (apart d' _) = g.unlike i j (before i v d) (before j w d') e

    pub going_end : {k : ℕ} {ls : List ℕ} → Going t p k ls → k ≡ 0 → Distinct t p × LastMet (p + 1) ls
    unfolding occ
    going_end {k} {ls} g e = (
      λ i j a b own alike. g.unlike i j (all i a (alike.0 ∙ own)) (all j b own) alike.1,
      record { long = g.long; low = λ b. omega (arith, g.low b) },
    )
      where
        none : to_go t k ≡ []
        none = follows_end (subst (λ (j : ℕ). Follows Out t j (to_go t k)) e g.follows)

        all : (j : ℕ) → IsArc t j → (arc_at t j).from ≡ p → Passed t p k j
        all j a own = record { arc = a; own = own; gone = ap {A = List ℕ} (occ j) none }

  pub told_all : ((p : ℕ) → IsProcess (n_of t) p → Distinct t p) → all_to (m_of t) (unlike_before t) ≡ true
  told_all h = unlike_all t (λ j k a b alike. h (arc_at t k).from (ends k b).0 j k a b refl alike)

pub told_clash : (t : Fields) → Clash t → all_to (m_of t) (unlike_before t) ≡ false
told_clash t w = unlike_clash t w.0 w.1 w.2 w.3 w.4 w.5
