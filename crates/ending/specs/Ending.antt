-- The end of a check for every order: demand 3 as one theorem over all lists of calls.
--   at_d, before_d   == a run that holds the invariants is over at D, and before D it is not
--   ended            == what is said of such a run that is over
--   ending           == THE THEOREM: after every list of calls on an accepted start, the promise holds
-- Assumes nothing.
use Rattle.std.specs.Prelude.{ℕ, zero, suc, ◌+◌, ◌≤◌, Bool, true, false, List, [], ◌↔◌, ◌≡◌, refl, eqb, Ok}
use Rattle.std.proofs.lemmas.Bool.{false≢true}
use Rattle.std.proofs.Common.{sym, ap, ◌∙◌, subst, arith}
use Rattle.std.proofs.Math.IntN.{pos}
use Rattle.base.specs.Choice.{choose, bit}
use Rattle.base.specs.ChoiceLaws.{bit_test, tested, same?}
use Rattle.base.specs.Checks.{Tested, passed, failed, Same, same, apart}
use Rattle.base.specs.SumLaws.{lowest_to_same}
use Rattle.tables.specs.Waits.{Waits}
use Rattle.tables.specs.Sound.{Sound}
use Rattle.tables.specs.Table.{IsProcess}
use Rattle.machine.specs.Machine as Machines
use Rattle.machine.specs.Calls.{fixed_order}
use Rattle.machine.specs.Lists.{Call, Passed}
use Rattle.machine.proofs.ChooserLaws.{fixed_order_finds}
use Rattle.machine.specs.Made.{PassMade}
use Rattle.machine.proofs.MadeLaws.{made_waits, made_start, made_edition, made_count, answered_listed}
use Rattle.machine.specs.RestLaws.{work_rest, work_busy}
use Rattle.machine.proofs.UpheldLaws.{upheld_busy, upheld_rest, upheld_empty, upheld_goes_on, upheld_list}
use Rattle.checks.specs.declared.Verdict.TheVariants.{Knot, Free}
use Rattle.checks.specs.declared.Mark.TheVariants.{Returned, Held}
use Rattle.checks.specs.Run.{Run, IsEdition, knot, over, start_run}
use Rattle.checks.specs.Calls.{escape_of, is_zero, verdict_of, mark_of, reported, report}
use Rattle.checks.specs.Reach.{all_reach_back, in_knot, outsider, outsiders, lowest_outsider, all_wait, sinks, d_of}
use Rattle.checks.specs.Lists.{at_start, Ended, Promise}
use Rattle.checks.specs.Lists
use Rattle.ending.specs.Weights.{Tally, subordinates, waitless, sum_in, worth_of, Few}
use Rattle.ending.specs.Invariants.{Summed, Holds}
use Rattle.ending.specs.CountingLaws.{link_short}
use Rattle.ending.specs.SpreadEndLaws.{sends_most, succ_end, prec_end, sub_end, sends_end, outsiders_sum, sinks_sum, knot_end, wait_end}
use Rattle.ending.specs.SumBoundLaws.{subordinates_few, waitless_few, sum_end}
use Rattle.ending.specs.HoldsLaws.{holds_start, holds_formed, holds_count, holds_upheld}

-- ---- D

module _ (r : Run) (h : Holds r) where
  pub at_d : over r ≡ true → r.count ≡ d_of r.waits r.start
  at_d e =
      sym (work_rest h.diffusing (upheld_rest holds_upheld r h e)) ∙ sym h.worked ∙
      sends_end h.sound h.tidy h.spread (upheld_empty holds_upheld r h e)

  pub before_d : over r ≡ false → r.count + 1 ≤ d_of r.waits r.start
  before_d e =
      omega (arith, work_busy knot r.waits.n r h.tidy.start_is_in, upheld_busy holds_upheld r h e, h.worked, sends_most h.sound h.tidy h.spread)

  only_at_d : r.count ≡ d_of r.waits r.start → over r ≡ true
  only_at_d c = at (tested (over r))
    where
      at : Tested (over r) → over r ≡ true
      at (passed e) = e
      at (failed e) = absurd (omega (arith, before_d e))

-- ---- the end

-- a test that says whether a number is 0
zero_test : (k : ℕ) (b : Bool) → (b ≡ true) ↔ (k ≡ 0) → is_zero (pos k) ≡ b
zero_test zero true h = refl
zero_test zero false h = absurd (false≢true (h.1 refl))
zero_test (suc k) true h = absurd (omega (arith, h.0 refl))
zero_test (suc k) false h = refl

module _ (r : Run) (h : Holds r) (o : over r ≡ true) where
  gone : (a b : ℕ) → IsProcess r.waits.n a → IsProcess r.waits.n b → r.link a b ≡ []
  gone = upheld_empty holds_upheld r h o

  -- either sum: what all processes add at the start, and 0 elsewhere
  module _ (τ : Tally) (few : Few τ r.waits r) (summed : Summed r.waits r.start τ r) (v : ℕ) (is : worth_of τ r.waits r ≡ v) where
    sums :
        (sum_in τ (r.process r.start) ≡ pos (worth_of τ r.waits r)) ×
        ((i : ℕ) → IsProcess r.waits.n i → (i ≡ r.start → ⊥) → sum_in τ (r.process i) ≡ pos 0)
    sums = sum_end h.sound τ few summed h.tidy.start_is_in (upheld_rest holds_upheld r h o) gone

    own_sum : sum_in τ (r.process r.start) ≡ pos v
    own_sum = sums.0 ∙ ap pos is

    end_sum : (p : ℕ) → IsProcess r.waits.n p → sum_in τ (r.process p) ≡ pos (at_start r.start v p)
    unfolding at_start
    end_sum p i = at (same? p r.start)
      where
        at : Same p r.start → sum_in τ (r.process p) ≡ pos (choose (eqb p r.start) v 0)
        at (same e f) = rw (f, e) own_sum
        at (apart e f) = rw f (sums.1 p i e)

  outside_end : worth_of (subordinates r.start) r.waits r ≡ outsiders r.waits r.start
  outside_end = outsiders_sum h.sound h.tidy h.spread gone

  sinks_end : worth_of (waitless r.waits) r.waits r ≡ sinks r.waits r.start
  sinks_end = sinks_sum h.sound h.tidy h.spread gone

  start_sum : (r.process r.start).cs ≡ pos (outsiders r.waits r.start)
  start_sum = own_sum (subordinates r.start) (subordinates_few h.tidy) h.summed (outsiders r.waits r.start) outside_end

  start_second : (r.process r.start).second ≡ pos (sinks r.waits r.start)
  start_second = own_sum (waitless r.waits) (waitless_few h.tidy) h.seconds (sinks r.waits r.start) sinks_end

  subs : (p : ℕ) → IsProcess r.waits.n p → (r.process p).subordinate ≡ bit (outsider r.waits r.start p)
  subs = sub_end h.sound h.tidy h.spread gone

  -- 02, N1: who has subordinate 1 at the end is reachable from the start and does not reach it
  escape_end : escape_of r ≡ lowest_outsider r.waits r.start
  unfolding escape_of lowest_outsider
  escape_end = lowest_to_same r.waits.n _ _ (λ p l u. rw (subs p (l, u)) (bit_test (outsider r.waits r.start p)))

  abbrev inAKnot : Bool
  inAKnot = in_knot r.waits r.start r.edition

  -- 02, N4: the verdict by the edition
  verdict_end : verdict_of r ≡ choose inAKnot Knot Free
  unfolding verdict_of in_knot
  verdict_end =
      rw (start_sum, zero_test (outsiders r.waits r.start) (all_reach_back r.waits r.start) (knot_end r.waits r.start))

  -- 02, N3: the mark by the second sum
  mark_end : mark_of (r.process r.start) ≡ choose (all_wait r.waits r.start) Returned Held
  mark_end = rw (start_second, zero_test (sinks r.waits r.start) (all_wait r.waits r.start) (wait_end r.waits r.start))

  reports : report r
      ≡ Ok
      (record {
        deliveries = d_of r.waits r.start;
        verdict = choose inAKnot Knot Free;
        outside = pos (outsiders r.waits r.start);
        escape = lowest_outsider r.waits r.start;
        mark = choose (all_wait r.waits r.start) Returned Held;
      })
  unfolding report reported
  reports = rw (holds_formed r h, o, verdict_end, escape_end, mark_end, start_sum, at_d r h o)

  pub ended : Ended r.waits r.start r.edition r
  ended =
      record {
        none_waits = gone;
        reports = reports;
        succeeding = succ_end h.sound h.tidy h.spread gone;
        preceding = prec_end h.sound h.tidy h.spread gone;
        subordinate = subs;
        num = upheld_rest holds_upheld r h o;
        cs = end_sum (subordinates r.start) (subordinates_few h.tidy) h.summed (outsiders r.waits r.start) outside_end;
        second = end_sum (waitless r.waits) (waitless_few h.tidy) h.seconds (sinks r.waits r.start) sinks_end;
      }

-- ---- the theorem

-- demand 3 over the waits w, the start s and the edition ed: after every list of calls, the empty one too
pub ending : (w : Waits) → Sound w → (s : ℕ) → IsProcess w.n s → (ed : ℕ) → IsEdition ed → (cs : List Call)
    → Promise w s ed (Lists.passed cs (start_run w s ed))
unfolding Machines.start_run
ending w sd s i ed named cs =
    let u = upheld_list holds_upheld fixed_order fixed_order_finds cs (start_run w s ed) (holds_start w s ed sd i named) in
    let p : Passed Run = Lists.passed cs (start_run w s ed) in
    let count : p.left.count ≡ 0 + p.made = made_count u.0.made in
    promised w s ed p u.1 (made_waits u.0.made) (made_start u.0.made) (made_edition u.0.made) (omega arith) u.0
  where
    promised : (w : Waits) (s ed : ℕ) (p : Passed Run) → Holds p.left → p.left.waits ≡ w → p.left.start ≡ s → p.left.edition ≡ ed
        → p.left.count ≡ p.made → PassMade knot (start_run w s ed) p → Promise w s ed p
    promised w s ed p h e f g c m =
        subst (λ (v : Waits). Promise v s ed p) e
        (subst (λ (t : ℕ). Promise p.left.waits t ed p) f
        (subst (λ (d : ℕ). Promise p.left.waits p.left.start d p) g
        (record {
          at_most = rw (sym c) (holds_count p.left h);
          counted = c;
          over_at_d = (λ o. sym c ∙ at_d p.left h o, λ q. only_at_d p.left h (c ∙ q));
          goes_on = upheld_goes_on holds_upheld p.left h;
          ended = ended p.left h;
          edition = refl;
          answers = λ n j. answered_listed (m.answered n j);
          at_most_4 = λ a b pa pb. link_short h.tidy h.diffusing pa pb;
        })))
