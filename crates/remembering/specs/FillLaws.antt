-- Laws of filling the array, arc by arc.
--   both-ways                            == two tests that pass together
--   Filled t r k l                       == the array l holds the marks of the links that stand with an arc before k
--   filled_first, filled_next, filled_last   == before the first arc, one arc more, and after the last
-- Assumes nothing.
use Rattle.std.specs.Prelude.{ℕ, ◌+◌, ◌<◌, Bool, false, ◌&&◌, List, ◌≡◌, refl, eqb}
use Rattle.std.proofs.Math.Bool.{true}
use Rattle.std.proofs.lemmas.Bool.{false≢true}
use Rattle.std.proofs.Common.{sym, ◌∙◌, arith, eq-eqb}
use Rattle.std.proofs.Math.Path.{ap}
use Rattle.std.proofs.Math.Logic.{⊎_elim}
use Rattle.base.specs.ChoiceLaws.{same?, tested, or_cases}
use Rattle.base.specs.Checks.{Same, same, apart, Tested, passed, failed}
use Rattle.tables.specs.declared.Arc.{Arc}
use Rattle.tables.specs.Table.{Fields, m_of, arc_at}
use Rattle.tables.specs.Layout.{IsArc}
use Rattle.tables.specs.Waits.{Waits, waits_of, neighbours}
use Rattle.tables.specs.WaitsLaws.{waits_of_P}
use Rattle.machine.specs.Calls.{waiting}
use Rattle.checks.specs.Run.{Run}
use Rattle.areas.specs.Contained.{Contained}
use Rattle.delivery.specs.StorableLaws.{waiting_joined}
use Rattle.marks.specs.Marks.{Marks}
use Rattle.marks.specs.Changes.{Turns}
use Rattle.marks.specs.GroupLaws.{marks_cong}
use Rattle.remembering.specs.Memory.{Remembers}
use Rattle.remembering.specs.Noting.{looked_marks, along_marks}

pub both_ways : (p q : Bool) → (p ≡ true → q ≡ true) → (q ≡ true → p ≡ true) → p ≡ q
both_ways true q f g = sym (f refl)
both_ways false true f g = g refl
both_ways false false f g = refl

-- ---- one link looked at

module _ (r : Run) (a b : ℕ) (held : ℕ → ℕ → Bool) where
  -- only links with a message are marked
  looked_only : ((x y : ℕ) → held x y ≡ true → waiting (r.link x y) ≡ true)
      → (x y : ℕ) → looked_marks r a b held x y ≡ true → waiting (r.link x y) ≡ true
  looked_only h x y = at (tested (waiting (r.link a b))) (same? x a) (same? y b)
    where
      at : Tested (waiting (r.link a b)) → Same x a → Same y b → looked_marks r a b held x y ≡ true → waiting (r.link x y) ≡ true
      at (failed e) _ _ m = h x y (rw e at m)
      at (passed e) (same f p) (same g q) m = rw (f, g) e
      at (passed e) (same f p) (apart g q) m = h x y (rw (e, p, q) at m)
      at (passed e) (apart f p) _ m = h x y (rw (e, p) at m)

  -- a mark stays
  looked_kept : (x y : ℕ) → held x y ≡ true → looked_marks r a b held x y ≡ true
  looked_kept x y h = at (tested (waiting (r.link a b))) (tested (eqb x a && eqb y b))
    where
      at : Tested (waiting (r.link a b)) → Tested (eqb x a && eqb y b) → looked_marks r a b held x y ≡ true
      at (failed e) _ = rw e h
      at (passed e) (passed f) = rw (e, f)
      at (passed e) (failed f) = rw (e, f) h

  looked_here : waiting (r.link a b) ≡ true → looked_marks r a b held a b ≡ true
  looked_here e = rw (e, eq-eqb a a refl, eq-eqb b b refl)

-- ---- arc by arc

pub record Filled (t : Fields) (r : Run) (k : ℕ) (l : List ℕ) : Type 0 where
  pub held : ℕ → ℕ → Bool
  pub marks : Marks held l
  pub only : (x y : ℕ) → held x y ≡ true → waiting (r.link x y) ≡ true
  pub forth : (j : ℕ) → IsArc t j → j < k → waiting (r.link (arc_at t j).from (arc_at t j).to) ≡ true → held (arc_at t j).from (arc_at t j).to ≡ true
  pub back : (j : ℕ) → IsArc t j → j < k → waiting (r.link (arc_at t j).to (arc_at t j).from) ≡ true → held (arc_at t j).to (arc_at t j).from ≡ true

module _ (t : Fields) (r : Run) where
  pub filled_first : {l : List ℕ} → Marks (λ a b. false) l → Filled t r 1 l
  filled_first h =
      record {
        held = λ a b. false;
        marks = h;
        only = λ x y e. absurd (false≢true e);
        forth = λ j i u. absurd (omega arith);
        back = λ j i u. absurd (omega arith);
      }

  pub filled_next : {k : ℕ} {l m : List ℕ} → Filled t r k l → Turns l (along_marks r (arc_at t k)) m → Filled t r (k + 1) m
  filled_next {k} {l} {m} f turns =
      record {
        held = along_marks r x f.held;
        marks = turns f.held f.marks;
        only = looked_only r x.to x.from once (looked_only r x.from x.to f.held f.only);
        forth = λ j i u. ahead j i u (same? j k);
        back = λ j i u. behind j i u (same? j k);
      }
    where
      x : Arc
      x = arc_at t k

      once : ℕ → ℕ → Bool
      once = looked_marks r x.from x.to f.held

      kept : (p q : ℕ) → f.held p q ≡ true → along_marks r x f.held p q ≡ true
      kept p q e = looked_kept r x.to x.from once p q (looked_kept r x.from x.to f.held p q e)

      ahead : (j : ℕ) → IsArc t j → j < k + 1 → Same j k → waiting (r.link (arc_at t j).from (arc_at t j).to) ≡ true
          → along_marks r x f.held (arc_at t j).from (arc_at t j).to ≡ true
      ahead j i u (same e _) w =
          let here = looked_kept r x.to x.from once x.from x.to (looked_here r x.from x.to f.held (rw e at w)) in
          rw e here
      ahead j i u (apart e _) w = kept (arc_at t j).from (arc_at t j).to (f.forth j i (omega arith) w)

      behind : (j : ℕ) → IsArc t j → j < k + 1 → Same j k → waiting (r.link (arc_at t j).to (arc_at t j).from) ≡ true
          → along_marks r x f.held (arc_at t j).to (arc_at t j).from ≡ true
      behind j i u (same e _) w = let here = looked_here r x.to x.from once (rw e at w) in rw e here
      behind j i u (apart e _) w = kept (arc_at t j).to (arc_at t j).from (f.back j i (omega arith) w)

  pub filled_last : Contained t r → {k : ℕ} → k ≡ m_of t + 1 → {l : List ℕ} → Filled t r k l → Remembers r l
  unfolding neighbours
  filled_last contained {k} q f = marks_cong f.marks (λ x y _ _. both_ways (f.held x y) (waiting (r.link x y)) (f.only x y) (all x y))
    where
      all : (x y : ℕ) → waiting (r.link x y) ≡ true → f.held x y ≡ true
      all x y w =
          let n : neighbours r.waits x y ≡ true = waiting_joined t r contained x y w in
          let e : neighbours (waits_of t) x y ≡ true = ap (λ (v : Waits). neighbours v x y) (sym contained.waits) ∙ n in
          ⊎_elim
          (λ g. let a = (waits_of_P t x y).0 g in
          let h = f.forth a.0 a.1 (omega (arith, a.1)) in
          rw (a.2, a.3) at h w)
          (λ g. let a = (waits_of_P t y x).0 g in
          let h = f.back a.0 a.1 (omega (arith, a.1)) in
          rw (a.2, a.3) at h w)
          (or_cases ((waits_of t).waits x y) ((waits_of t).waits y x) e)
