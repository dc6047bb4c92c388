-- What the answer of the receiver's step says of a delivery in a well-formed run.
--   stepped_at_is          == the receiver's step is refused only by 22, and is else its turn
--   stepped_at_taken, stepped_at_refused   == what an answer of the step says
--   accepts_is            == the delivery of a step that is taken meets no 22 exactly if the count and the links have room
--   taken_replied         == whom a step that is taken acknowledges is a neighbour of the receiver
--   accepts_taken         == what an accepted delivery says of the step, the count and the links
--   accepts_of, accepts_refused, accepts_full, accepts_crowded   == it meets no 22, or 22 for one of its three reasons
--   carried_of            == what makes the changes of an accepted delivery possible
--   deliver_answer, deliver_run   == what a delivery answers, and the run that it leaves
-- Assumes nothing.
use Rattle.std.specs.Prelude.{ℕ, ◌+◌, ◌≤◌, ◌<◌, Bool, true, not, ◌&&◌, List, refl, eqb, leb, length, Ok, Err, Some}
use Rattle.std.proofs.Math.Bool.{false}
use Rattle.std.proofs.Math.Path.{◌≡◌, sym, fun_ext}
use Rattle.std.proofs.Common.{ap, ◌∙◌, arith}
use borrow.Author.Tests.{leb-true, le-leb, lt-leb}
use Rattle.machine.specs.Machine as Machines
use Rattle.machine.specs.Calls as MachineCalls
use Rattle.base.specs.Choice.{choose}
use Rattle.base.specs.ChoiceLaws.{tested, and_both, and_three}
use Rattle.base.specs.Checks.{Tested, passed, failed}
use Rattle.base.specs.Sums.{all_to}
use Rattle.base.specs.SumLaws.{all_to_at}
use Rattle.tables.specs.Waits.{out_degree, in_degree, neighbours}
use Rattle.tables.specs.Sound.{Sound}
use Rattle.tables.specs.WaitsLaws.{neighbours_ends}
use Rattle.steps.specs.declared.Message.{Message}
use Rattle.steps.specs.declared.Reply.{Reply}
use Rattle.steps.specs.declared.Turn.{Turn}
use Rattle.steps.specs.Step.{in_range, count_small, num_suffices, reply_fits, fitting, start_stepped}
use Rattle.steps.specs.StepLaws.{stepped_inside}
use Rattle.refusals.specs.declared.Refusal.{Refusal}
use Rattle.refusals.specs.Numbers.{numbered, answered}
use Rattle.machine.specs.Calls.{cut, at_place}
use Rattle.machine.specs.Among.{Among}
use Rattle.machine.proofs.PlaceLaws.{cut_placed}
use Rattle.machine.proofs.MadeLaws.{deliver_cut}
use Rattle.machine.specs.FormedLaws.{well_formed_P}
use Rattle.checks.specs.RunLaws.{new_father, replied, new_range, new_reply}
use Rattle.checks.specs.Run.{Run, most_deliveries, knot, turn_of, well_formed, turn_at, after, accepts}
use Rattle.preparing.specs.LentLaws.{lent}
use Rattle.preparing.specs.Rooms.{load_after, roomy}
use Rattle.preparing.specs.Receiving.{stepped_at}
use Rattle.carrying.specs.Carrying.{carried_out, Carried}
use Rattle.carrying.specs.DeliveryLaws.{carried_out_is, load_after_is}
use Rattle.delivery.specs.Delivering.{deliver_at}
use Rattle.delivery.specs.DeliveryFacts.{Taking}

-- ---- the receiver's step

module _ (r : Run) (h : well_formed r ≡ true) (sd : Sound r.waits) (a b : ℕ) (j : neighbours r.waits a b ≡ true) (m : Message)
    (c : count_small m ≡ true) where
  stepped_at_is : stepped_at r a b m ≡ answered (choose (not (fitting m (r.process b) (turn_at r a b m))) 22 0) (turn_at r a b m)
  unfolding turn_of start_stepped
  stepped_at_is = at (tested (eqb b r.start))
    where
      at : Tested (eqb b r.start) → stepped_at r a b m ≡ answered (choose (not (fitting m (r.process b) (turn_at r a b m))) 22 0) (turn_at r a b m)
      at (passed e) = rw e
      at (failed e) =
          let k = neighbours_ends r.waits sd a b j in
          rw e (stepped_inside m (out_degree r.waits b) (in_degree r.waits b) a (r.process b) (lent r h sd b (k.2, k.3) m c)
          (λ q. omega (arith, k.0)) (omega (arith, k.1, sd.few)))

  pub stepped_at_taken : (t : Turn) → stepped_at r a b m ≡ Ok t → Taking r a b m t
  stepped_at_taken t e = at (tested (fitting m (r.process b) (turn_at r a b m)))
    where
      at : Tested (fitting m (r.process b) (turn_at r a b m)) → Taking r a b m t
      at (passed f) = let k : Ok (turn_at r a b m) ≡ Ok t = rw f at (sym stepped_at_is ∙ e) in record { fits = f; is = cc }
      at (failed f) =
          let k : Err (numbered 22) ≡ Ok t = rw f at (sym stepped_at_is ∙ e) in
          let n : ◌≡◌ {A = ℕ} 0 1 = cc in
          absurd (omega arith)

  pub stepped_at_refused : {e : Refusal} → stepped_at r a b m ≡ Err e → (fitting m (r.process b) (turn_at r a b m) ≡ false) × (e ≡ numbered 22)
  stepped_at_refused {e} q = at (tested (fitting m (r.process b) (turn_at r a b m)))
    where
      at : Tested (fitting m (r.process b) (turn_at r a b m)) → (fitting m (r.process b) (turn_at r a b m) ≡ false) × (e ≡ numbered 22)
      at (passed f) =
          let k : Ok (turn_at r a b m) ≡ Err e = rw f at (sym stepped_at_is ∙ q) in
          let n : ◌≡◌ {A = ℕ} 0 1 = cc in
          absurd (omega arith)
      at (failed f) = let k : Err (numbered 22) ≡ Err e = rw f at (sym stepped_at_is ∙ q) in (f, cc)

  -- whom the step acknowledges is a neighbour of the receiver
  pub taken_replied : (t : Turn) → stepped_at r a b m ≡ Ok t → (y : Reply) → t.sent.reply ≡ Some y → neighbours r.waits b y.to ≡ true
  unfolding fitting
  taken_replied t e y f =
      let taking : Taking r a b m t = stepped_at_taken t e in
      let k = and_three (num_suffices m (r.process b)) (in_range (turn_at r a b m).process) (reply_fits (turn_at r a b m).sent.reply) taking.fits in
      replied ((well_formed_P knot r).0 h) sd a b j m k.2 y.to y.counts (ap (λ (u : Turn). u.sent.reply) (sym taking.is) ∙ f)

-- ---- a delivery

-- no link from b holds a fifth message

not_first : (a b c : Bool) → a ≡ false → (a && b && c) ≡ false
not_first a b c e = rw e

not_second : (a b c : Bool) → b ≡ false → (a && b && c) ≡ false
not_second true b c e = rw e
not_second false b c e = refl

not_right : (a b : Bool) → b ≡ false → (a && b) ≡ false
not_right true b e = e
not_right false b e = refl

and_true : (a b : Bool) → (a && true && b) ≡ (a && b)
and_true true b = refl
and_true false b = refl

module _ (r : Run) (h : well_formed r ≡ true) (sd : Sound r.waits) (a b : ℕ) (j : neighbours r.waits a b ≡ true) (m : Message)
    (small : count_small m ≡ true) (rest : List Message) (l : Among m rest (r.link a b)) where
  abbrev counted : Bool
  counted = leb (r.count + 1) most_deliveries

  abbrev fits : Bool
  fits = fitting m (r.process b) (turn_at r a b m)

  abbrev held : Bool
  held = all_to r.waits.n (λ q. leb (length ((after r a b m rest).link b q)) 4)

  -- the room that a promise asks for is the room that is counted
  roomy_is : held ≡ roomy r a b (turn_at r a b m).sent.probes (turn_at r a b m).sent.reply
  roomy_is = ap (all_to r.waits.n) (fun_ext (λ q. ap (λ (k : ℕ). leb k 4) (load_after_is r a b m rest l q)))

  -- the step of an accepted delivery is taken, and the count and the links have room
  pub accepts_taken : accepts r a b m rest ≡ true
      → (stepped_at r a b m ≡ Ok (turn_at r a b m)) × (r.count < most_deliveries) × (roomy r a b (turn_at r a b m).sent.probes (turn_at r a b m).sent.reply ≡ true)
  unfolding Machines.accepts
  accepts_taken e =
      let k = and_three counted fits held e in
      (rw (stepped_at_is r h sd a b j m small, k.1), omega (arith, leb-true (r.count + 1) most_deliveries k.0), sym roomy_is ∙ k.2)

  pub accepts_refused : {e : Refusal} → stepped_at r a b m ≡ Err e → accepts r a b m rest ≡ false
  unfolding Machines.accepts
  accepts_refused e = not_second counted fits held (stepped_at_refused r h sd a b j m small e).0

  pub accepts_full : most_deliveries ≤ r.count → accepts r a b m rest ≡ false
  unfolding Machines.accepts
  accepts_full u = not_first counted fits held (lt-leb (r.count + 1) most_deliveries (omega arith))

  module _ (t : Turn) (e : stepped_at r a b m ≡ Ok t) where
    taking : Taking r a b m t
    taking = stepped_at_taken r h sd a b j m small t e

    roomy_taken : held ≡ roomy r a b t.sent.probes t.sent.reply
    roomy_taken = rw taking.is roomy_is

    -- the delivery of a step that is taken meets no 22 exactly if the count and the links have room
    accepts_is : accepts r a b m rest ≡ (leb (r.count + 1) most_deliveries && roomy r a b t.sent.probes t.sent.reply)
    unfolding Machines.accepts
    accepts_is = rw (taking.fits, roomy_taken) (and_true counted (roomy r a b t.sent.probes t.sent.reply))

    pub accepts_crowded : roomy r a b t.sent.probes t.sent.reply ≡ false → accepts r a b m rest ≡ false
    accepts_crowded f = accepts_is ∙ not_right counted (roomy r a b t.sent.probes t.sent.reply) f

    module _ (few : r.count < most_deliveries) (free : roomy r a b t.sent.probes t.sent.reply ≡ true) where
      pub accepts_of : accepts r a b m rest ≡ true
      accepts_of = accepts_is ∙ and_both counted (roomy r a b t.sent.probes t.sent.reply) (le-leb (r.count + 1) most_deliveries (omega arith)) free

      -- the same with the place of the message
      module _ (i : ℕ) (p : at_place i (r.link a b) ≡ cut m rest) where
        pub carried_of : Carried r a b i t.process t.sent.probes t.sent.reply
        carried_of =
            record {
              joined = j;
              placed = (cut_placed i (r.link a b) p).1;
              range = rw taking.is (new_range r a b m rest accepts_of);
              father = rw taking.is (new_father ((well_formed_P knot r).0 h) sd a b j m);
              replies = rw taking.is (new_reply r a b m rest accepts_of);
              replied = taken_replied r h sd a b j m small t e;
              count = omega arith;
              room = λ q u v. leb-true (load_after r a b t.sent.probes t.sent.reply q) 4 (all_to_at r.waits.n (λ q. leb (load_after r a b t.sent.probes t.sent.reply q) 4) free q u v);
            }

        pub deliver_answer : (deliver_at r a b i).answer ≡ Ok m
        unfolding MachineCalls.delivered
        deliver_answer = rw (deliver_cut knot r a b i (r.link a b) p, accepts_of)

        pub deliver_run : (deliver_at r a b i).run ≡ carried_out r a b i t.process t.sent.probes t.sent.reply
        unfolding MachineCalls.delivered
        deliver_run = rw (deliver_cut knot r a b i (r.link a b) p, accepts_of, taking.is) (sym (carried_out_is r sd a b i m rest p))
