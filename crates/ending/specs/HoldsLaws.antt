-- All invariants together: a run that holds them is well formed, a delivery from it is accepted and holds them again.
--   holds_start      == start gives them
--   holds_after      == every delivery keeps them
--   holds_count      == the deliveries made are at most D
--   holds_formed     == such a run is well formed: 21 is never met
--   holds_accepts    == such a run meets no 22
--   holds_upheld     == what the machine asks of a check's invariants
--   holds_made       == any number of deliveries keep them
-- Assumes nothing.
use Prim.Native.Nat.{ℕ, ◌≤◌}
use Rattle.std.specs.Prelude.{Bool, false, not, ◌&&◌, List, [], ◌∷◌, ◌++◌, ◌≡◌, eqb, length, Option, Some, None, Ok, Err}
use Rattle.std.proofs.Math.Bool.{true}
use Rattle.std.proofs.lemmas.Bool.{false≢true}
use Rattle.std.proofs.Math.Path.{refl, subst}
use Rattle.std.proofs.Common.{sym, ap, ◌∙◌, arith}
use Rattle.std.proofs.Math.Logic.{⊎_elim}
use borrow.Author.Tests.{eqb-true, le-leb, eq-eqb}
use Rattle.base.specs.Choice.{choose, bit}
use Rattle.base.specs.ChoiceLaws.{and_both, and_left, or_left, or_right, same?, tested}
use Rattle.base.specs.Checks.{Same, same, apart, Tested, passed, failed}
use Rattle.refusals.specs.Numbers.{numbered}
use Rattle.tables.specs.Waits.{Waits, out_degree, in_degree, neighbours}
use Rattle.tables.specs.Sound.{Sound}
use Rattle.tables.specs.Table.{IsProcess, is_process}
use Rattle.machine.specs.Machine as Machines
use Rattle.machine.specs.Moved.{Moved}
use Rattle.machine.specs.MovedLaws.{after_moved}
use Rattle.machine.specs.Among.{Among}
use Rattle.machine.specs.Formed.{Formed}
use Rattle.machine.specs.FormedLaws.{well_formed_P, accepts_P, all_right_tail}
use Rattle.machine.specs.Made.{Made, Answered, none_refused, no_link, not_over}
use Rattle.machine.proofs.MadeLaws.{made_keeps}
use Rattle.machine.specs.DiffusingLaws.{diffusing_start, diffusing_kept}
use Rattle.machine.specs.RestLaws.{ack_awaited, link_neighbours, work_busy}
use Rattle.machine.specs.TreeLaws.{treed_start, treed_kept}
use Rattle.machine.specs.Upheld.{Upheld}
use Rattle.steps.specs.declared.Message.{Message}
use Rattle.steps.specs.declared.Message.TheVariants.{Suc, Pre, Ack}
use Rattle.steps.specs.declared.Process.{Process}
use Rattle.steps.specs.declared.Reply.{Reply}
use Rattle.steps.specs.Step.{most_num, in_range, both_small, count_small, num_suffices, reply_fits, fitting, new_subordinate}
use Rattle.steps.specs.Effect.{is_probe, Effect}
use Rattle.checks.specs.Run.{Run, IsEdition, knot, over, start_run, turn_at, reply_receiver, probes_to, sent_to, leaving, after, accepts, well_formed}
use Rattle.checks.specs.Run.{father_right, counts_small}
use Rattle.checks.specs.Calls.{report, reported, read_record, report_number, reading_number}
use Rattle.checks.specs.Lists.{asked}
use Rattle.checks.specs.Reach.{d_of}
use Rattle.checks.specs.RunLaws.{is_edition_P, turn_at_effect}
use Rattle.ending.specs.Weights.{quota, subordinates, waitless, Diffuses}
use Rattle.ending.specs.Invariants.{Holds}
use Rattle.ending.specs.CountingLaws.{quota_near, knot_begins, effect_counted, acknowledged_in, worked_start, worked_kept, link_short, num_small}
use Rattle.ending.specs.TidyLaws.{tidy_start, tidy_kept}
use Rattle.ending.specs.SpreadingLaws.{spread_start, spread_kept}
use Rattle.ending.specs.SpreadEndLaws.{sends_most, d_of_most}
use Rattle.ending.specs.SummedLaws.{summed_start, subordinates_begin, waitless_begin, summed_kept, subordinates_tallied}
use Rattle.ending.specs.SumBoundLaws.{subordinates_few, waitless_few, sum_small, counts_small_met}

pub holds_start : (w : Waits) (s ed : ℕ) → Sound w → IsProcess w.n s → IsEdition ed → Holds (start_run w s ed)
unfolding Machines.start_run
holds_start w s ed sd p named =
    record {
      sound = sd;
      edition = named;
      tidy = tidy_start ed p;
      diffusing = diffusing_start ed (knot_begins w s);
      worked = worked_start w s ed p;
      treed = treed_start ed (knot_begins w s);
      spread = spread_start ed sd p;
      summed = summed_start w s ed (subordinates s) (subordinates_begin w s);
      seconds = summed_start w s ed (waitless w) (waitless_begin w s);
    }

-- ---- a delivery

module _ (r : Run) (h : Holds r) (a b : ℕ) (pa : IsProcess r.waits.n a) (pb : IsProcess r.waits.n b) (m : Message) (rest : List Message)
    (l : Among m rest (r.link a b)) where
  moved : Moved r.waits r a b m (leaving r.waits b (turn_at r a b m)) (after r a b m rest)
  moved = after_moved knot r a b m rest l

  awaited : bit (not (is_probe m)) ≤ (r.process b).num
  awaited = omega (arith, moved.waited (λ n. bit (not (is_probe n))), ack_awaited h.diffusing pa pb)

  effect : Effect (eqb b r.start) m (out_degree r.waits b) (in_degree r.waits b) a (r.process b) (turn_at r a b m)
  effect =
      turn_at_effect r a b m
      (record {
        succ_bit = h.tidy.succ_bit b pb;
        prec_bit = h.tidy.prec_bit b pb;
        sub_is = h.tidy.sub_is b pb;
        root_succ = λ e. rw (eqb-true b r.start e) h.tidy.start_succ;
        root_prec = λ e. rw (eqb-true b r.start e) h.tidy.start_prec;
        num_suffices_is = awaited;
      })

  holds_after : Holds (after r a b m rest)
  unfolding Machines.after
  holds_after =
      let d : Diffuses r.waits r.start (after r a b m rest) =
      diffusing_kept (quota_near r.waits) h.diffusing pa pb moved (effect_counted r.waits r.start effect) in
      record {
        sound = h.sound;
        edition = h.edition;
        tidy = tidy_kept h.tidy pb moved effect;
        diffusing = d;
        worked = worked_kept r.start pa pb moved effect h.worked;
        treed = treed_kept h.diffusing d h.treed pa pb moved (effect_counted r.waits r.start effect) effect.father_kept;
        spread = spread_kept h.sound h.tidy h.spread pa pb moved effect;
        summed =
            summed_kept h.diffusing pa pb moved effect (subordinates r.start) refl h.summed (subordinates_tallied h.tidy pb effect);
        seconds = summed_kept h.diffusing pa pb moved effect (waitless r.waits) refl h.seconds effect.seconds;
      }

-- ---- well formed

sub_bit : (x : Process) → new_subordinate x ≤ 1
unfolding new_subordinate
sub_bit x = at (eqb x.succeeding 1 && eqb x.preceding 0)
  where
    at : (b : Bool) → choose b 1 0 ≤ 1
    at true = omega arith
    at false = omega arith

module _ (r : Run) (h : Holds r) where
  pub holds_count : r.count ≤ d_of r.waits r.start
  holds_count = omega (arith, work_busy knot r.waits.n r h.tidy.start_is_in, h.worked, sends_most h.sound h.tidy h.spread)

  holds_range : (i : ℕ) → IsProcess r.waits.n i → in_range (r.process i) ≡ true
  unfolding in_range
  holds_range i p =
      let x : Process = r.process i in
      let sub : x.subordinate ≤ 1 = rw (h.tidy.sub_is i p) (sub_bit (r.process i)) in
      and_both _ _ (and_both _ _ (and_both _ _ (and_both _ _ (and_both _ _
      (le-leb x.succeeding 1 (h.tidy.succ_bit i p))
      (le-leb x.preceding 1 (h.tidy.prec_bit i p)))
      (le-leb x.subordinate 1 sub))
      (sum_small h.sound (subordinates r.start) (subordinates_few h.tidy) h.summed i p))
      (le-leb x.num most_num (num_small h.tidy h.diffusing h.sound p)))
      (sum_small h.sound (waitless r.waits) (waitless_few h.tidy) h.seconds i p)

  father_fits : (i : ℕ) → IsProcess r.waits.n i → father_right r.waits i (r.process i) ≡ true
  unfolding father_right
  father_fits i p =
      let f : ℕ = (r.process i).father in
      ⊎_elim
      (λ (e : f ≡ 0). or_left (eqb f 0) (neighbours r.waits i f) (eq-eqb f 0 e))
      (λ e. or_right (eqb f 0) (neighbours r.waits i f) e)
      (h.diffusing.fathers i p)

  apart_empty : (a b : ℕ) → IsProcess r.waits.n a → IsProcess r.waits.n b → neighbours r.waits a b ≡ false → (ms : List Message)
      → r.link a b ≡ ms → ms ≡ []
  apart_empty a b pa pb n [] l = refl
  apart_empty a b pa pb n (m ∷ ms) l = absurd (false≢true (sym n ∙ link_neighbours h.diffusing (quota_near r.waits) pa pb (omega (arith, ap length l))))

  parts : Formed knot r
  parts =
      record {
        room = refl;
        start_is_in = h.tidy.start_is_in;
        edition = (is_edition_P r.edition).1 h.edition;
        count = omega (arith, holds_count, d_of_most r.waits r.start h.sound);
        records = λ i p. and_both _ _ (holds_range i p) (father_fits i p);
        short = λ a b pa pb. link_short h.tidy h.diffusing pa pb;
        joined = λ a b pa pb n. apart_empty a b pa pb n (r.link a b) refl;
        messages = λ a b pa pb. counts_small_met h.sound h.tidy h.summed h.seconds a b pa pb;
      }

  pub holds_formed : well_formed r ≡ true
  holds_formed = (well_formed_P knot r).1 parts

-- ---- accepted

-- an acknowledgement that a step sends stands on a link afterwards, so its counts are in range
reply_small : (before after : List Message) (y : Reply) → counts_small (before ++ (reply_receiver (Some y) y.to ++ after)) ≡ true → both_small y.counts ≡ true
unfolding reply_receiver Machines.all_right count_small
reply_small before after y k = at (same? y.to y.to)
  where
    at : Same y.to y.to → both_small y.counts ≡ true
    at (apart d _) = absurd (d refl)
    at (same _ e) =
        and_left (both_small y.counts) (counts_small after) (rw e at (all_right_tail count_small before (reply_receiver (Some y) y.to ++ after) k))

module _ (r : Run) (h : Holds r) (a b : ℕ) (pa : IsProcess r.waits.n a) (pb : IsProcess r.waits.n b) (m : Message) (rest : List Message)
    (l : Among m rest (r.link a b)) where
  next : Holds (after r a b m rest)
  next = holds_after r h a b pa pb m rest l

  suffices : (m : Message) → bit (not (is_probe m)) ≤ (r.process b).num → num_suffices m (r.process b) ≡ true
  unfolding num_suffices
  suffices Suc k = refl
  suffices Pre k = refl
  suffices (Ack c) k = le-leb 1 (r.process b).num k

  reply_fits_is : (y : Option Reply) → (turn_at r a b m).sent.reply ≡ y → reply_fits y ≡ true
  unfolding reply_fits Machines.after sent_to
  reply_fits_is None e = refl
  reply_fits_is (Some y) e =
      let ip : IsProcess r.waits.n y.to = acknowledged_in h.diffusing pa pb (effect r h a b pa pb m rest l) y.to y.counts e in
      let k : counts_small ((after r a b m rest).link b y.to) ≡ true = counts_small_met next.sound next.tidy next.summed next.seconds b y.to pb ip in
      and_both _ _ (le-leb 1 y.to ip.0)
      (reply_small (Machines.taken r a b rest b y.to) (probes_to r.waits b (turn_at r a b m).sent.probes y.to) y (rw (eq-eqb b b refl, e) at k))

  range : in_range (turn_at r a b m).process ≡ true
  unfolding Machines.after
  range = subst (λ (x : Process). in_range x ≡ true) (moved r h a b pa pb m rest l).receiver (holds_range (after r a b m rest) next b pb)

  fits : fitting m (r.process b) (turn_at r a b m) ≡ true
  unfolding fitting
  fits = and_both _ _ (and_both _ _ (suffices m (awaited r h a b pa pb m rest l)) range) (reply_fits_is (turn_at r a b m).sent.reply refl)

  holds_accepts : accepts r a b m rest ≡ true
  unfolding Machines.after
  holds_accepts =
      (accepts_P knot r a b m rest).1
      (record {
        room = refl;
        count = (parts (after r a b m rest) next).count;
        fits = fits;
        short = λ q i. link_short next.tidy next.diffusing pb i;
      })

-- ---- what the machine asks

report_answered : (r : Run) → well_formed r ≡ true → Answered (report_number (report r))
unfolding report reported
report_answered r h = rw h (at (tested (over r)))
  where
    at : Tested (over r) → Answered (report_number (choose (not (over r)) (Err (numbered 26)) (Ok (reported r))))
    at (passed e) = rw e none_refused
    at (failed e) = rw e not_over

read_answered : (r : Run) → well_formed r ≡ true → (p : ℕ) → Answered (reading_number (read_record r p))
unfolding read_record
read_answered r h p = rw h (at (tested (is_process r.waits.n p)))
  where
    at : Tested (is_process r.waits.n p) → Answered (reading_number (choose (not (is_process r.waits.n p)) (Err (numbered 25)) (Ok (r.process p))))
    at (failed e) = rw e no_link
    at (passed e) = rw e none_refused

pub holds_upheld : Upheld knot quota asked Holds
holds_upheld =
    record {
      sure = record {
        sound = λ r h. h.sound;
        formed = holds_formed;
        accepted = holds_accepts;
        kept = λ r h a b pa pb m rest l _. holds_after r h a b pa pb m rest l;
        reports = λ r h. report_answered r (holds_formed r h);
        readings = λ r h p. read_answered r (holds_formed r h) p;
      };
      near = λ r _. quota_near r.waits;
      diffusing = λ r h. h.diffusing;
      treed = λ r h. h.treed;
    }

-- any number of deliveries keep them
pub holds_made : {r q : Run} {k : ℕ} → Holds r → Made knot r k q → Holds q
holds_made h m = made_keeps Holds holds_upheld.sure.kept h m
