-- Laws of a knot check's runs: the parts of a well-formed one are the machine's (machine, FormedLaws).
--   is_edition_P, edition_few  == the test of an edition says that it is 1 or 2; so it is at most 2
--   formed_range, formed_father   == the record of a process in a well-formed run: in range, its father 0 or a neighbour
--   turn_at_effect, turn_at_named   == the laws of the step, of the receiver's step in a run
--   new_range, new_reply      == the record and the acknowledgement that an accepted delivery makes are in range
--   nothing_sent              == the receiver's step sends to its neighbours alone
--   new_father, replied       == the father that a step leaves is right, and whom it acknowledges is a neighbour
--   knot_after                == an accepted delivery keeps a run well formed, whether start made it or not
-- Assumes nothing.
use Prim.Native.Nat.{ℕ, ◌≤◌}
use Rattle.std.proofs.Math.Bool.{true}
use Rattle.std.specs.Prelude.{false, ◌≡◌, ◌↔◌, eqb, Option, Some, None}
use Rattle.std.proofs.lemmas.Bool.{false≢true}
use mathlib.Core.List.{List, []}
use Rattle.std.proofs.Math.Path.{refl}
use Rattle.std.proofs.Common.{sym, ◌∙◌, inl, inr, arith, eqb-true, eq-eqb, leb-true}
use Rattle.std.proofs.Math.Logic.{⊎_elim}
use Rattle.std.proofs.Math.Dec.{leb}
use Rattle.steps.specs.declared.TwoCounts.{TwoCounts}
use Rattle.base.specs.ChoiceLaws.{and_both, and_left, and_right, and_three, or_left, or_right, or_none, or_cases, same?, tested}
use Rattle.base.specs.Checks.{Same, same, apart, Tested, passed, failed}
use Rattle.tables.specs.Waits.{out_degree, in_degree, neighbours}
use Rattle.tables.specs.Sound.{Sound}
use Rattle.tables.specs.Table.{IsProcess}
use Rattle.tables.specs.WaitsLaws.{neighbours_swap, neighbours_ends}
use Rattle.machine.specs.Formed.{Formed}
use Rattle.machine.specs.FormedLaws.{accepts_P, formed_after}
use Rattle.machine.specs.Among.{Among}
use Rattle.steps.specs.declared.Message.{Message}
use Rattle.steps.specs.declared.Message.TheVariants.{Ack}
use Rattle.steps.specs.declared.Probes.{Probes}
use Rattle.steps.specs.declared.Probes.TheVariants.{Sucs, Pres}
use Rattle.steps.specs.declared.Reply.{Reply}
use Rattle.steps.specs.Step.{acknowledgement, in_range, both_small, num_suffices, reply_fits, fitting}
use Rattle.steps.specs.Effect.{Known, Effect, Named}
use Rattle.steps.proofs.EffectLaws.{turn_effect, start_turn_effect, turn_named, start_turn_named}
use Rattle.checks.specs.Run.{Run, IsEdition, is_edition, knot, father_right, one, turn_of, turn_at, reply_receiver, probes_to, sent_to, after, accepts}
use Rattle.checks.specs.SentLaws.{sent_right}

-- ---- the edition (02, N4)

pub is_edition_P : (ed : ℕ) → (is_edition ed ≡ true) ↔ IsEdition ed
unfolding is_edition
is_edition_P ed = (
  λ e. ⊎_elim (λ f. inl (eqb-true ed 1 f)) (λ f. inr (eqb-true ed 2 f)) (or_cases (eqb ed 1) (eqb ed 2) e),
  λ h. ⊎_elim (λ f. or_left (eqb ed 1) (eqb ed 2) (eq-eqb ed 1 f)) (λ f. or_right (eqb ed 1) (eqb ed 2) (eq-eqb ed 2 f)) h,
)

pub edition_few : {ed : ℕ} → IsEdition ed → ed ≤ 2
edition_few h = ⊎_elim (λ e. omega arith) (λ e. omega arith) h

-- ---- the receiver's step

module _ (r : Run) (a b : ℕ) (m : Message) where
  pub turn_at_effect :
      Known (eqb b r.start) m (r.process b) →
      Effect (eqb b r.start) m (out_degree r.waits b) (in_degree r.waits b) a (r.process b) (turn_at r a b m)
  unfolding turn_of
  turn_at_effect = at (tested (eqb b r.start))
    where
      o : ℕ
      o = out_degree r.waits b

      i : ℕ
      i = in_degree r.waits b

      at : Tested (eqb b r.start) → Known (eqb b r.start) m (r.process b) → Effect (eqb b r.start) m o i a (r.process b) (turn_at r a b m)
      at (passed e) = rw e (start_turn_effect m o i a (r.process b))
      at (failed e) = rw e (turn_effect m o i a (r.process b))

  turn_at_named : Named a (r.process b) (turn_at r a b m)
  unfolding turn_of
  turn_at_named = at (tested (eqb b r.start))
    where
      at : Tested (eqb b r.start) → Named a (r.process b) (turn_at r a b m)
      at (passed e) = rw e (start_turn_named m a (r.process b))
      at (failed e) = rw e (turn_named m (out_degree r.waits b) (in_degree r.waits b) a (r.process b))

-- ---- one record of a well-formed run

module _ {r : Run} (f : Formed knot r) (p : ℕ) (i : IsProcess r.waits.n p) where
  pub formed_range : in_range (r.process p) ≡ true
  formed_range = and_left (in_range (r.process p)) (father_right r.waits p (r.process p)) (f.records p i)

  pub formed_father : father_right r.waits p (r.process p) ≡ true
  formed_father = and_right (in_range (r.process p)) (father_right r.waits p (r.process p)) (f.records p i)

-- ---- whom a step names

module _ {r : Run} (f : Formed knot r) (sd : Sound r.waits) (a b : ℕ) (j : neighbours r.waits a b ≡ true) (m : Message) where
  back : neighbours r.waits b a ≡ true
  back = neighbours_swap r.waits b a ∙ j

  pub new_father : father_right r.waits b (turn_at r a b m).process ≡ true
  unfolding father_right
  new_father =
      let i = neighbours_ends r.waits sd a b j in
      ⊎_elim
      (λ (e : (turn_at r a b m).process.father ≡ (r.process b).father). rw e (formed_father f b (i.2, i.3)))
      (λ (e : (turn_at r a b m).process.father ≡ a). rw e (or_right (eqb a 0) (neighbours r.waits b a) back))
      (turn_at_named r a b m).father

  -- whom the step acknowledges is a neighbour of the receiver
  pub replied :
      reply_fits (turn_at r a b m).sent.reply ≡ true → (q : ℕ) (c : TwoCounts) → (turn_at r a b m).sent.reply ≡ acknowledgement q c → neighbours r.waits b q ≡ true
  unfolding reply_fits father_right
  replied k q c e =
      ⊎_elim
      (λ (g : q ≡ a). rw g back)
      (λ (g : q ≡ (turn_at r a b m).process.father). far g)
      ((turn_at_named r a b m).reply q c e)
    where
      low : leb 1 q ≡ true
      low = and_left (leb 1 q) (both_small c) (rw e at k)

      far : q ≡ (turn_at r a b m).process.father → neighbours r.waits b q ≡ true
      far g =
          ⊎_elim
          (λ (z : eqb (turn_at r a b m).process.father 0 ≡ true).
          absurd (omega (arith, leb-true 1 q low, eqb-true (turn_at r a b m).process.father 0 z)))
          (λ (z : neighbours r.waits b (turn_at r a b m).process.father ≡ true). rw g z)
          (or_cases (eqb (turn_at r a b m).process.father 0) (neighbours r.waits b (turn_at r a b m).process.father) new_father)

-- ---- an accepted delivery

module _ (r : Run) (a b : ℕ) (m : Message) (rest : List Message) (ok : accepts r a b m rest ≡ true) where
  fits :
      (num_suffices m (r.process b) ≡ true) × (in_range (turn_at r a b m).process ≡ true) × (reply_fits (turn_at r a b m).sent.reply ≡ true)
  unfolding fitting
  fits =
      and_three (num_suffices m (r.process b)) (in_range (turn_at r a b m).process) (reply_fits (turn_at r a b m).sent.reply)
      ((accepts_P knot r a b m rest).0 ok).fits

  pub new_range : in_range (turn_at r a b m).process ≡ true
  new_range = fits.1

  pub new_reply : reply_fits (turn_at r a b m).sent.reply ≡ true
  new_reply = fits.2

  -- the step sends to neighbours alone
  module _ (f : Formed knot r) (sd : Sound r.waits) (j : neighbours r.waits a b ≡ true) (y : ℕ) (n : neighbours r.waits b y ≡ false) where
    no_replies : (z : Option Reply) → (turn_at r a b m).sent.reply ≡ z → reply_receiver z y ≡ []
    unfolding reply_receiver
    no_replies None e = refl
    no_replies (Some z) e = at (same? y z.to)
      where
        at : Same y z.to → one (eqb y z.to) (Ack z.counts) ≡ []
        at (same g h) = absurd (false≢true (sym n ∙ rw g (replied f sd a b j m new_reply z.to z.counts e)))
        at (apart g h) = rw h

    no_probes : (z : Probes) → probes_to r.waits b z y ≡ []
    unfolding probes_to neighbours
    no_probes Probes.Nothing = refl
    no_probes Sucs = rw (or_none (r.waits.waits b y) (r.waits.waits y b) n).0
    no_probes Pres = rw (or_none (r.waits.waits b y) (r.waits.waits y b) n).1

    pub nothing_sent : sent_to r.waits b (turn_at r a b m) y ≡ []
    unfolding sent_to
    nothing_sent = rw (no_replies (turn_at r a b m).sent.reply refl, no_probes (turn_at r a b m).sent.probes)

  pub knot_after :
      Formed knot r → Sound r.waits → neighbours r.waits a b ≡ true → Among m rest (r.link a b) → Formed knot (after r a b m rest)
  knot_after f sd j l =
      let i = neighbours_ends r.waits sd a b j in
      formed_after knot r f a b (i.0, i.1) (i.2, i.3) m rest l ok
      (and_both _ _ new_range (new_father f sd a b j m))
      (λ y _ n. nothing_sent f sd j y n)
      (λ y _. sent_right r.waits b (turn_at r a b m) y new_reply)
