-- The end of a check in the words of the relation of who reaches whom.
--   d_of_P            == D counts the arcs whose from is reachable from the start, and those whose to reaches it
--   ended_P          == Ended, by tests, and EndedInWords, by the relation, say the same of a run that is over
--   demand_3_words   == after every list of calls on an accepted start that is over, what 01 says, by the relation
-- Assumes nothing.
use Rattle.std.specs.Prelude.{ℕ, ◌+◌, ◌*◌, Bool, true, false, List, ◌≡◌, refl, ◌↔◌}
use Rattle.std.proofs.Common.{sym, ap, ◌∙◌, arith, eq-eqb}
use Rattle.std.proofs.Math.IntN.{pos}
use Rattle.base.specs.Choice.{choose, bit}
use Rattle.base.specs.Sums.{HowMany, count_to}
use Rattle.base.specs.SumLaws.{count_to_P}
use Rattle.tables.specs.Table.{Fields, field_of, n_of, m_of, arc_at, IsProcess}
use Rattle.tables.specs.Layout.{MeetsLayout, Right}
use Rattle.tables.specs.Waits.{waits_of}
use Rattle.tables.specs.Sound.{Sound}
use Rattle.tables.specs.WaitsLaws.{waits_of_sound}
use Rattle.machine.specs.Lists.{Call}
use Rattle.checks.specs.declared.Verdict.TheVariants.{Knot, Free}
use Rattle.checks.specs.declared.Mark.TheVariants.{Returned, Held}
use Rattle.checks.specs.Run.{Run, IsEdition, over, start_run}
use Rattle.checks.specs.Reach.{Reaches, reaches, in_knot, outsider, outsiders, lowest_outsider, all_wait, sinks, d_of}
use Rattle.checks.proofs.ReachLaws.{reaches_P, in_knot_P, outsider_P, outsiders_P, lowest_outsider_P, all_wait_P, sinks_P}
use Rattle.checks.specs.Lists.{at_start, Ended, Promise, passed}
use Rattle.checks.specs.InWords.{EndedInWords}
use Rattle.ending.specs.Demand.{demand_3}
use Rattle.ending.specs.DemandLaws.{d_of_arcs}

-- a flag is 1 exactly if its test passes
bit_P : (x : ℕ) (b : Bool) {P : Type 0} → x ≡ bit b → (b ≡ true) ↔ P → (x ≡ 1) ↔ P
bit_P x true e h = (λ _. h.0 refl, λ _. e)
bit_P x false e h = (λ z. absurd (omega (arith, sym e ∙ z)), λ p. e ∙ ap bit (h.1 p))

-- of two values that are not the same, the first exactly by the test
chosen_P : {A : Type 0} (x y : A) → (y ≡ x → ⊥) → (b : Bool) {P : Type 0} → (b ≡ true) ↔ P → (choose b x y ≡ x) ↔ P
chosen_P x y n true h = (λ _. h.0 refl, λ _. refl)
chosen_P x y n false h = (λ e. absurd (n e), λ p. ap (λ (c : Bool). choose c x y) (h.1 p))

free_knot : Free ≡ Knot → ⊥
free_knot e = let z : ◌≡◌ {A = ℕ} 0 1 = cc in omega arith

held_returned : Held ≡ Returned → ⊥
held_returned e = let z : ◌≡◌ {A = ℕ} 0 1 = cc in omega arith

module _ (t : Fields) (right : Right t) (s : ℕ) (i : IsProcess (n_of t) s) where
  ok : Sound (waits_of t)
  ok = waits_of_sound t right

  abbrev onwards : ℕ
  onwards = count_to (m_of t) (λ k. reaches (waits_of t) s (arc_at t k).from)

  abbrev backs : ℕ
  backs = count_to (m_of t) (λ k. reaches (waits_of t) (arc_at t k).to s)

  pub d_of_P : HowMany (λ k. Reaches (waits_of t) s (arc_at t k).from) (m_of t) onwards × HowMany (λ k. Reaches (waits_of t) (arc_at t k).to s) (m_of t) backs ×
      (d_of (waits_of t) s ≡ 2 * onwards + 2 * backs)
  unfolding waits_of
  d_of_P = (
    count_to_P (m_of t) (λ k. reaches (waits_of t) s (arc_at t k).from) _ (λ k l u. reaches_P (waits_of t) ok s (arc_at t k).from i),
    count_to_P (m_of t) (λ k. reaches (waits_of t) (arc_at t k).to s) _ (λ k l u. reaches_P (waits_of t) ok (arc_at t k).to s (right.ends k (l, u)).1),
    d_of_arcs t right s,
  )

  pub ended_P : (ed : ℕ) (r : Run) → r.count ≡ d_of (waits_of t) s → Ended (waits_of t) s ed r → EndedInWords t s ed r
  unfolding waits_of at_start
  ended_P ed r c h =
      record {
        onward = onwards;
        onward_is = d_of_P.0;
        back = backs;
        back_is = d_of_P.1;
        count = c ∙ d_of_P.2;
        outside = outsiders (waits_of t) s;
        outside_is = outsiders_P (waits_of t) ok s i;
        verdict = choose (in_knot (waits_of t) s ed) Knot Free;
        mark = choose (all_wait (waits_of t) s) Returned Held;
        escape = lowest_outsider (waits_of t) s;
        escape_is = lowest_outsider_P (waits_of t) ok s i;
        reports = rw d_of_P.2 at h.reports;
        knot = chosen_P Knot Free free_knot (in_knot (waits_of t) s ed) (in_knot_P (waits_of t) ok s i ed);
        returned = chosen_P Returned Held held_returned (all_wait (waits_of t) s) (all_wait_P (waits_of t) ok s i);
        sinks = sinks (waits_of t) s;
        sinks_is = sinks_P (waits_of t) ok s i;
        start_second = h.second s i ∙ own;
        succeeding = λ p j. bit_P (r.process p).succeeding (reaches (waits_of t) s p) (h.succeeding p j) (reaches_P (waits_of t) ok s p i);
        preceding = λ p j. bit_P (r.process p).preceding (reaches (waits_of t) p s) (h.preceding p j) (reaches_P (waits_of t) ok p s j);
        subordinate = λ p j. bit_P (r.process p).subordinate (outsider (waits_of t) s p) (h.subordinate p j) (outsider_P (waits_of t) ok s i p j);
      }
    where
      own : pos (at_start s (sinks (waits_of t) s) s) ≡ pos (sinks (waits_of t) s)
      own = rw (eq-eqb s s refl)

-- after every list that is over
pub demand_3_words : (bs : List ℕ) → MeetsLayout bs → (s : ℕ) → IsProcess (n_of (field_of bs)) s → (ed : ℕ) → IsEdition ed → (cs : List Call)
    → over (passed cs (start_run (waits_of (field_of bs)) s ed)).left ≡ true
    → EndedInWords (field_of bs) s ed (passed cs (start_run (waits_of (field_of bs)) s ed)).left
unfolding waits_of
demand_3_words bs h s i ed named cs o =
    let r : Run = (passed cs (start_run (waits_of (field_of bs)) s ed)).left in
    let p : Promise (waits_of (field_of bs)) s ed (passed cs (start_run (waits_of (field_of bs)) s ed)) = demand_3 bs h s i ed named cs in
    ended_P (field_of bs) h.right s i ed r (p.counted ∙ p.over_at_d.0 o) (p.ended o)
