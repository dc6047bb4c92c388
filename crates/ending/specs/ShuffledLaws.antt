-- Running on with a seed (02, N13): "Such a run ends as any other." From every run that holds the invariants, with every seed that is not 0.
--   seeded            == running on with a seed that is not 0 is running on in the shuffled order, from that state
--   shuffled_out, shuffled_over   == with as many deliveries as are left, or more: it ends over with their number, and leaves a run that is over
--   shuffled_ended    == .. of which all is said that is said of every end, one and the same for every order
--   shuffled_spent    == with fewer: it is spent with its own number, and leaves a run that is not over
--   shuffled_alike    == so it answers what running on in the fixed order answers
--   ending_shuffled   == the same after every list of calls on an accepted start
-- Assumes nothing.
use Rattle.std.specs.Prelude.{ℕ, ◌+◌, ◌-◌, ◌≤◌, ◌<◌, true, List, ◌≡◌, Ok}
use Rattle.std.proofs.Common.{sym, ap, ◌∙◌, subst, arith, ne_eqb}
use Rattle.tables.specs.Waits.{Waits}
use Rattle.tables.specs.Sound.{Sound}
use Rattle.tables.specs.Table.{IsProcess}
use Rattle.machine.specs.declared.Ran.{Ran}
use Rattle.machine.specs.Calls.{RanOn, fixed_order, shuffled_order}
use Rattle.machine.specs.Calls as MachineCalls
use Rattle.machine.specs.Lists.{Call}
use Rattle.machine.proofs.ChooserLaws.{fixed_order_finds, fixed_order_chooses, shuffled_order_chooses}
use Rattle.machine.proofs.MadeLaws.{made_waits, made_start, made_edition, run_shuffled_made}
use Rattle.machine.specs.Upheld.{RanShort}
use Rattle.machine.proofs.UpheldLaws.{upheld_list}
use Rattle.steps.specs.declared.Message.{Message}
use Rattle.steps.specs.declared.Process.{Process}
use Rattle.checks.specs.Run.{Run, IsEdition, knot, over, start_run}
use Rattle.checks.specs.Calls.{run_on, run_shuffled}
use Rattle.checks.specs.Reach.{d_of}
use Rattle.checks.specs.Lists.{Ended}
use Rattle.checks.specs.Lists
use Rattle.ending.specs.Invariants.{Holds}
use Rattle.ending.specs.HoldsLaws.{holds_start, holds_upheld, holds_made}
use Rattle.ending.specs.Ending.{ended}
use Rattle.ending.specs.EndingLaws.{runs_out, runs_over, runs_spent, ran_alike}

-- "It refuses seed 0 with 37": with any other it is running on in an order of its own
seeded : (k seed : ℕ) → 1 ≤ seed → (r : Run) → run_shuffled k seed r ≡ MachineCalls.run_on knot shuffled_order k seed r
unfolding MachineCalls.run_shuffled MachineCalls.run_on
seeded k seed u r = rw (ne_eqb seed 0 (λ e. absurd (omega arith)))

module _ (r : Run) (h : Holds r) (k seed : ℕ) (u : 1 ≤ seed) where
  is : run_shuffled k seed r ≡ MachineCalls.run_on knot shuffled_order k seed r
  is = seeded k seed u r

  -- the deliveries that are left are made, and the run is over
  module _ (enough : d_of r.waits r.start ≤ r.count + k) where
    pub shuffled_out : (run_shuffled k seed r).answer ≡ Ok (Ran.Over (d_of r.waits r.start - r.count))
    shuffled_out = rw is (runs_out shuffled_order_chooses r h k seed enough)

    pub shuffled_over : over (run_shuffled k seed r).run ≡ true
    shuffled_over = rw is (runs_over shuffled_order_chooses r h k seed enough)

    pub shuffled_ended : Ended r.waits r.start r.edition (run_shuffled k seed r).run
    shuffled_ended =
        let m = run_shuffled_made knot k seed r in
        let q : Run = (run_shuffled k seed r).run in
        let e : Ended q.waits q.start q.edition q = ended q (holds_made h m) shuffled_over in
        subst (λ (w : Waits). Ended w r.start r.edition q) (made_waits m)
        (subst (λ (s : ℕ). Ended q.waits s r.edition q) (made_start m)
        (subst (λ (ed : ℕ). Ended q.waits q.start ed q) (made_edition m) e))

  -- fewer are all made, and the run is not over
  pub shuffled_spent : r.count + k < d_of r.waits r.start → RanShort knot k (run_shuffled k seed r)
  shuffled_spent fewer = subst (RanShort knot k) (sym is) (runs_spent shuffled_order_chooses r h k seed fewer)

  pub shuffled_alike : (run_shuffled k seed r).answer ≡ (run_on k r).answer
  shuffled_alike =
      ap (λ (x : RanOn Process Message). x.answer) is ∙ ran_alike shuffled_order_chooses fixed_order_chooses r h k seed 0

-- after every list, whatever the seed that is not 0
pub ending_shuffled :
    (w : Waits) → Sound w → (s : ℕ) → IsProcess w.n s → (ed : ℕ) → IsEdition ed → (cs : List Call) (k seed : ℕ) → 1 ≤ seed →
    (run_shuffled k seed (Lists.passed cs (start_run w s ed)).left).answer ≡ (run_on k (Lists.passed cs (start_run w s ed)).left).answer
ending_shuffled w sd s i ed named cs k seed u =
    let p = upheld_list holds_upheld fixed_order fixed_order_finds cs (start_run w s ed) (holds_start w s ed sd i named) in
    shuffled_alike (Lists.passed cs (start_run w s ed)).left p.1 k seed u
