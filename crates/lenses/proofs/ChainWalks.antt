-- Chains of the copied table in a tested area, arc by arc.
--   field_is            == what `unsigned` says of a field's word that was read back
--   ready_right, ready_process, ahead_arc, ahead_far   == the area's table, its processes, an arc that is met and its far end
--   to_go c t k          == the arcs of a chain from arc k on
--   ends c t ks q       == how many of the arcs ks have q as their far end
--   ArcsLeft c t b k        == arc k stands on the chain of b, or the chain is at its end: no far end comes twice from there on
--   left_first, left_end == where a walk begins; what is left at its end
--   Ahead, left_on      == what is known at an arc, and of the next one
--   far_is, next_is     == the far end of an arc that was read, and the arc that follows
--   Walked, walked_first, walked_next, walked_all, walked_fails   == a test of each far end, as a test of all whom the chain joins
--   Counted, counted_first, counted_on, counted_all   == the arcs counted one by one
-- Assumes nothing.
use Prim.Native.Nat.{ℕ, zero, suc, ◌+◌, ◌≤◌, ◌<◌, ◌^◌}
use mathlib.Core.Bool.{Bool, true, false, not, ◌||◌}
use mathlib.Core.List.{List, [], ◌∷◌}
use mathlib.Core.Path.{◌≡◌, refl, sym, ap, ◌∙◌, subst}
use native.Mathlib.Omega.{arith}
use lib.Dec.{eqb}
use lib.ListN.{length, get_or}
use lib.IntN.{ℤ, pos, nat_abs}
use lib.Signed.{mag}
use mir.Syntax.{w32}
use mir.Val.{to_z, of_z}
use Rattle.base.specs.Choice.{bit}
use Rattle.base.specs.ChoiceLaws.{bit_≤1, same?, tested, bit_same, bit_apart, bit_some}
use Rattle.base.specs.Checks.{Same, same, apart, Tested, passed, failed}
use Rattle.base.specs.Sums.{all_to}
use Rattle.base.specs.SumLaws.{all_to_of}
use Rattle.base.specs.Counts.{occ, sum_over}
use Rattle.base.specs.PrefixLaws.{all_to_stop}
use Rattle.tables.specs.declared.Arc.{Arc}
use Rattle.tables.specs.declared.Chain.{Chain}
use Rattle.tables.specs.declared.Chain.TheVariants.{Out, In}
use Rattle.tables.specs.Table.{Fields, n_of, m_of, field_total, IsProcess, first, arc_at, near, next}
use Rattle.tables.specs.Layout.{IsArc, Right}
use Rattle.tables.specs.Waits.{waits_of}
use Rattle.tables.specs.Chains.{Follows, along, met, Own, far, joins, degree}
use Rattle.tables.specs.ChainLaws.{follows_on, follows_end, follows_along}
use Rattle.tables.specs.ChainFacts.{Onward}
use Rattle.tables.specs.MetLaws.{met_listed, met_each, met_length}
use Rattle.steps.proofs.Counts.{signed_back}
use Rattle.areas.specs.Places.{field_place}
use Rattle.areas.specs.Area.{fields_in}
use Rattle.areas.specs.RunInLaws.{fields_in_at}
use Rattle.areas.specs.AreaLaws.{area_right_table}
use Rattle.tables.specs.declared.Sizes.{Sizes}
use Rattle.lenses.specs.Ready.{Ready}

-- how many of the arcs ks have q as their far end
abbrev pub ends : Chain → Fields → List ℕ → ℕ → ℕ
ends c t ks q = sum_over ks (λ k. bit (eqb q (far c (arc_at t k))))

-- the arcs of a chain from arc k on
abbrev pub to_go : Chain → Fields → ℕ → List ℕ
to_go c t k = along c t (m_of t) k

pub record ArcsLeft (c : Chain) (t : Fields) (b k : ℕ) : Type 0 where
  pub follows : Follows c t k (to_go c t k)
  pub short : length (to_go c t k) ≤ m_of t
  pub high : k ≤ m_of t
  pub once : (q : ℕ) → IsProcess (n_of t) q → ends c t (to_go c t k) q ≤ bit (joins c (waits_of t) b q)
  pub own : Own c t b (to_go c t k)

-- what is known at an arc of the chain of b, and of the next
pub record Ahead (c : Chain) (t : Fields) (b k : ℕ) : Type 0 where
  pub arc : IsArc t k
  pub own : near c (arc_at t k) ≡ b
  pub process : IsProcess (n_of t) (far c (arc_at t k))
  pub joined : joins c (waits_of t) b (far c (arc_at t k)) ≡ true
  pub count : (q : ℕ) → ends c t (to_go c t k) q ≡ bit (eqb q (far c (arc_at t k))) + ends c t (to_go c t (next c (arc_at t k))) q
  pub alone : ends c t (to_go c t (next c (arc_at t k))) (far c (arc_at t k)) ≡ 0
  pub less : length (to_go c t k) ≡ suc (length (to_go c t (next c (arc_at t k))))
  pub onward : ArcsLeft c t b (next c (arc_at t k))

far_process : (c : Chain) (t : Fields) → Right t → (k : ℕ) → IsArc t k → IsProcess (n_of t) (far c (arc_at t k))
unfolding far
far_process Out t g k a = (g.ends k a).1
far_process In t g k a = (g.ends k a).0

pub first_ends : (c : Chain) {t : Fields} (g : Right t) {b : ℕ} → IsProcess (n_of t) b → (q : ℕ) → IsProcess (n_of t) q
    → ends c t (to_go c t (first c t b)) q ≡ bit (joins c (waits_of t) b q)
unfolding met
first_ends c {t} g {b} own q r = met_each t g c b own q r

module _ {c : Chain} {t : Fields} (g : Right t) {b : ℕ} where
  pub left_first : IsProcess (n_of t) b → ArcsLeft c t b (first c t b)
  unfolding met
  left_first own =
      let l = met_listed t g c b own in
      record { follows = l.follows; short = l.short; high = g.firsts c b own; once = λ q r. omega (arith, first_ends c g own q r); own = l.own }

  ahead : (j : ℕ) → ArcsLeft c t b (suc j) → Ahead c t b (suc j)
  unfolding sum_over occ
  ahead j l =
      let nx : ℕ = next c (arc_at t (suc j)) in
      let o : Onward c t j (to_go c t (suc j)) = follows_on l.follows in
      let long : length (to_go c t (suc j)) ≡ suc (length o.rest) = ap {A = List ℕ} length o.is in
      let few : length o.rest ≤ m_of t = omega (arith, l.short) in
      let rest : to_go c t nx ≡ o.rest = follows_along (m_of t) o.follows few in
      let is : to_go c t (suc j) ≡ suc j ∷ to_go c t nx = o.is ∙ ap {B = List ℕ} (λ ks. suc j ∷ ks) (sym rest) in
      let f : ℕ = far c (arc_at t (suc j)) in
      let count : (q : ℕ) → ends c t (to_go c t (suc j)) q ≡ bit (eqb q f) + ends c t (to_go c t nx) q = λ q. ap {A = List ℕ} (λ ks. ends c t ks q) is in
      let a : IsArc t (suc j) = (omega arith, l.high) in
      let p : IsProcess (n_of t) f = far_process c t g (suc j) a in
      let one = bit_same f f refl in
      record {
        arc = a;
        own = l.own (suc j) (rw is (omega (arith, bit_same (suc j) (suc j) refl)));
        process = p;
        joined = bit_some (joins c (waits_of t) b f) (omega (arith, l.once f p, count f, one));
        count = count;
        alone = omega (arith, l.once f p, count f, one, bit_≤1 (joins c (waits_of t) b f));
        less = ap {A = List ℕ} length is;
        onward =
            record {
              follows = subst (λ (ks : List ℕ). Follows c t nx ks) (sym rest) o.follows;
              short = rw rest few;
              high = g.nexts c (suc j) a;
              once = λ q r. omega (arith, l.once q r, count q);
              own = λ i h. l.own i (rw is (omega arith));
            };
      }

  pub left_on : (k : ℕ) → ArcsLeft c t b k → (k ≡ 0 → ⊥) → Ahead c t b k
  left_on zero l h = absurd (h refl)
  left_on (suc j) l h = ahead j l

  pub left_end : {k : ℕ} → ArcsLeft c t b k → k ≡ 0 → to_go c t k ≡ []
  left_end {k} l e = follows_end (subst (λ (j : ℕ). Follows c t j (to_go c t k)) e l.follows)

-- the far end of an arc that was read, and the arc that follows
pub far_is : (c : Chain) (t : Fields) (k : ℕ) {q : ℕ} {x : Arc} → x ≡ arc_at t k → q ≡ far c x → q ≡ far c (arc_at t k)
far_is c t k e f = f ∙ ap (far c) e

pub next_is : (c : Chain) (t : Fields) (k : ℕ) {q : ℕ} {x : Arc} → x ≡ arc_at t k → q ≡ next c x → q ≡ next c (arc_at t k)
next_is c t k e f = f ∙ ap (next c) e

-- ---- a tested area

module _ {w : List ℤ} {s : Sizes} (y : Ready w s) where
  pub ready_right : Right (fields_in w)
  ready_right = (area_right_table w y.right).right

  pub ready_process : {b : ℕ} → (1 ≤ b) × (b ≤ s.n) → IsProcess (n_of (fields_in w)) b
  ready_process h = (h.0, omega (arith, h.1, y.n_is))

  -- an arc that is met, as code knows it
  pub ahead_arc : {c : Chain} {b k : ℕ} → Ahead c (fields_in w) b k → (1 ≤ k) × (k ≤ s.m)
  ahead_arc a = (a.arc.0, omega (arith, a.arc.1, y.m_is))

  pub ahead_far : {c : Chain} {b k : ℕ} → Ahead c (fields_in w) b k → (1 ≤ far c (arc_at (fields_in w) k)) × (far c (arc_at (fields_in w) k) ≤ s.n)
  ahead_far a = (a.process.0, omega (arith, a.process.1, y.n_is))

  -- a field's word
  pub field_is : {j : ℕ} → j < field_total s.n s.m → {k : ℕ} → k ≡ field_place j → {r : ℕ} → mag (get_or w k (pos 0)) < 2 ^ 31
      → r ≡ nat_abs (to_z w32 (of_z w32 (get_or w k (pos 0)))) → r ≡ fields_in w j
  field_is {j} h {k} p l e = rw (signed_back (get_or w k (pos 0)) l, p) at e ∙ sym (fields_in_at w j (omega (arith, y.n_is, y.m_is)))

-- ---- a test of each far end

-- the far ends of the arcs passed pass the test v
pub record Walked (c : Chain) (t : Fields) (b k : ℕ) (v : ℕ → Bool) : Type 0 where
  pub here : ArcsLeft c t b k
  pub tests : (q : ℕ) → IsProcess (n_of t) q → joins c (waits_of t) b q ≡ true → ends c t (to_go c t k) q ≡ 0 → v q ≡ true

module _ {c : Chain} {t : Fields} (g : Right t) {b : ℕ} (v : ℕ → Bool) where
  pub walked_first : IsProcess (n_of t) b → {k : ℕ} → k ≡ first c t b → Walked c t b k v
  walked_first own e =
      rw e
      (record {
        here = left_first g own;
        tests = λ q r j o. let i : bit (joins c (waits_of t) b q) ≡ 1 = ap bit j in absurd (omega (arith, first_ends c g own q r));
      })

  pub walked_next : {k : ℕ} → Walked c t b k v → (k ≡ 0 → ⊥) → v (far c (arc_at t k)) ≡ true → Walked c t b (next c (arc_at t k)) v
  walked_next {k} w h p =
      let a = left_on g k w.here h in
      record { here = a.onward; tests = λ q r j o. at q r j o (same? q (far c (arc_at t k))) }
    where
      at : (q : ℕ) → IsProcess (n_of t) q → joins c (waits_of t) b q ≡ true → ends c t (to_go c t (next c (arc_at t k))) q ≡ 0 → Same q (far c (arc_at t k))
          → v q ≡ true
      at q r j o (same e _) = rw e p
      at q r j o (apart e f) = w.tests q r j (omega (arith, (left_on g k w.here h).count q, bit_apart q (far c (arc_at t k)) e))

  -- others' tests stand for the table's
  module _ (n : ℕ) (n_is : n ≡ n_of t) (f : ℕ → Bool) (f-is : (q : ℕ) → q ≤ n → f q ≡ joins c (waits_of t) b q) where
    pub walked_all : {k : ℕ} → Walked c t b k v → k ≡ 0 → true ≡ all_to n (λ q. not (f q) || v q)
    unfolding sum_over
    walked_all {k} w e = sym (all_to_of n (λ q. not (f q) || v q) (λ q l u. at q l u (tested (f q))))
      where
        none : (q : ℕ) → ends c t (to_go c t k) q ≡ 0
        none q = ap {A = List ℕ} (λ ks. ends c t ks q) (left_end g w.here e)

        at : (q : ℕ) → 1 ≤ q → q ≤ n → Tested (f q) → (not (f q) || v q) ≡ true
        at q l u (passed i) = rw i (w.tests q (l, omega arith) (sym (f-is q u) ∙ i) (none q))
        at q l u (failed i) = rw i

    pub walked_fails : {k : ℕ} → Walked c t b k v → (k ≡ 0 → ⊥) → v (far c (arc_at t k)) ≡ false → false ≡ all_to n (λ q. not (f q) || v q)
    walked_fails {k} w h p =
        let a = left_on g k w.here h in
        let q : ℕ = far c (arc_at t k) in
        let u : q ≤ n = omega (arith, a.process.1) in
        let i : f q ≡ true = f-is q u ∙ a.joined in
        sym (all_to_stop n q (λ j. not (f j) || v j) a.process.0 u (rw i p))

-- ---- the arcs counted

pub record Counted (c : Chain) (t : Fields) (b k d : ℕ) : Type 0 where
  pub here : ArcsLeft c t b k
  pub sum : d + length (to_go c t k) ≡ degree c (waits_of t) b
  pub few : d + length (to_go c t k) ≤ m_of t

module _ {c : Chain} {t : Fields} (g : Right t) {b : ℕ} where
  pub counted_first : IsProcess (n_of t) b → {k : ℕ} → k ≡ first c t b → Counted c t b k 0
  unfolding met
  counted_first own e =
      let all : length (to_go c t (first c t b)) ≡ degree c (waits_of t) b = met_length t g c b own in
      let h : ArcsLeft c t b (first c t b) = left_first g own in
      rw e (record { here = h; sum = omega arith; few = omega (arith, h.short) })

  pub counted_on : {k d : ℕ} → Counted c t b k d → (k ≡ 0 → ⊥) → Counted c t b (next c (arc_at t k)) (d + 1)
  counted_on {k} w h =
      let a = left_on g k w.here h in
      record { here = a.onward; sum = omega (arith, a.less, w.sum); few = omega (arith, a.less, w.few) }

  pub counted_all : {k d : ℕ} → Counted c t b k d → k ≡ 0 → d ≡ degree c (waits_of t) b
  counted_all {k} w e =
      let none : length (to_go c t k) ≡ 0 = ap {A = List ℕ} length (left_end g w.here e) in
      omega (arith, w.sum)
