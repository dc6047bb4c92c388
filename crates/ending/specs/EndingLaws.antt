-- What follows from the theorem for running on.
--   runs_out, runs_over   == in any order, from any state of it, with as many deliveries as are left: it ends over with their number, and
--                        leaves a run that is over
--   runs_spent        == .. with fewer: it is spent with its own number, and leaves a run that is not over
--   ran_alike         == .. so running on from one run answers the same in every order
--   ending_runs_out   == after every list of calls, running on with as many deliveries as are left ends over, with the number that was left
--   ending_over       == .. and leaves a run that is over
-- Assumes nothing.
use Rattle.std.specs.Prelude.{ℕ, ◌+◌, ◌-◌, ◌≤◌, ◌<◌, true, List, ◌≡◌, Ok}
use Rattle.std.proofs.Common.{sym, ap₂, ◌∙◌, arith}
use Rattle.std.proofs.Math.Path.{ap}
use Rattle.base.specs.ChoiceLaws.{below?}
use Rattle.base.specs.Checks.{Below, below, beyond}
use Rattle.tables.specs.Waits.{Waits}
use Rattle.tables.specs.Sound.{Sound}
use Rattle.tables.specs.Table.{IsProcess}
use Rattle.machine.specs.declared.Ran.{Ran}
use Rattle.machine.specs.declared.Ran.TheVariants.{Spent}
use Rattle.machine.specs.Machine as Machines
use Rattle.machine.specs.Calls.{Chooser, fixed_order, ran_made, run_from}
use Rattle.machine.specs.Calls as MachineCalls
use Rattle.machine.specs.Lists.{Call, Passed}
use Rattle.machine.proofs.ChooserLaws.{fixed_order_finds, fixed_order_chooses}
use Rattle.machine.specs.Made.{Chooses, RunMade}
use Rattle.machine.proofs.MadeLaws.{made_waits, made_start, made_count, run_from_made}
use Rattle.machine.specs.Upheld.{RanOut, RanShort}
use Rattle.machine.proofs.UpheldLaws.{upheld_list, upheld_runs_out, upheld_spent}
use Rattle.steps.specs.declared.Message.{Message}
use Rattle.steps.specs.declared.Process.{Process}
use Rattle.checks.specs.Run.{Run, IsEdition, knot, over, start_run}
use Rattle.checks.specs.Calls.{run_on}
use Rattle.checks.specs.Reach.{d_of}
use Rattle.checks.specs.Lists
use Rattle.ending.specs.Invariants.{Holds}
use Rattle.ending.specs.HoldsLaws.{holds_start, holds_formed, holds_upheld, holds_made}
use Rattle.ending.specs.Ending.{at_d, before_d}

-- from a run that holds the invariants, in any order that names a link with a message, and from any state of it
module _ {next : Chooser Process Message} (chooses : Chooses next) (r : Run) (h : Holds r) (k s : ℕ) where
  -- the deliveries that are left are made, and the run is over
  module _ (enough : d_of r.waits r.start ≤ r.count + k) where
    ran_out : RanOut knot (run_from knot next k 0 s r)
    ran_out = upheld_runs_out holds_upheld chooses d_of (λ q g o. omega (arith, before_d q g o)) k 0 s r h enough

    all_made : (run_from knot next k 0 s r).answer ≡ Ok (Ran.Over (d_of r.waits r.start - r.count))
    all_made =
        let m : RunMade knot r 0 (run_from knot next k 0 s r) = run_from_made knot next chooses.finds k 0 s r in
        let q : Run = (run_from knot next k 0 s r).run in
        let g : Holds q = holds_made h m.made in
        let last : q.count ≡ d_of q.waits q.start = at_d q g ran_out.ended in
        let same : d_of q.waits q.start ≡ d_of r.waits r.start = ap₂ d_of (made_waits m.made) (made_start m.made) in
        let says : ran_made (run_from knot next k 0 s r).answer ≡ ran_out.made = ap ran_made ran_out.says in
        let is : ran_out.made ≡ d_of r.waits r.start - r.count = omega (arith, m.all, made_count m.made) in
        ran_out.says ∙ ap (λ n. Ok (Ran.Over n)) is

    pub runs_out : (MachineCalls.run_on knot next k s r).answer ≡ Ok (Ran.Over (d_of r.waits r.start - r.count))
    unfolding MachineCalls.run_on
    runs_out = rw (holds_formed r h) all_made

    pub runs_over : over (MachineCalls.run_on knot next k s r).run ≡ true
    unfolding MachineCalls.run_on
    runs_over = rw (holds_formed r h) ran_out.ended

  -- fewer are all made, and the run is not over
  pub runs_spent : r.count + k < d_of r.waits r.start → RanShort knot k (MachineCalls.run_on knot next k s r)
  unfolding MachineCalls.run_on
  runs_spent fewer =
      let x : RanShort knot (0 + k) (run_from knot next k 0 s r) =
      upheld_spent holds_upheld chooses d_of (λ q g o. omega (arith, at_d q g o)) k 0 s r h fewer in
      rw (holds_formed r h) (record { says = x.says ∙ ap (λ n. Ok (Spent n)) (omega arith); goes_on = x.goes_on })

-- whatever the orders and their states, the answer is one
pub ran_alike : {next other : Chooser Process Message} → Chooses next → Chooses other → (r : Run) → Holds r → (k s t : ℕ)
    → (MachineCalls.run_on knot next k s r).answer ≡ (MachineCalls.run_on knot other k t r).answer
ran_alike {next} {other} c d r h k s t = at (below? (r.count + k) (d_of r.waits r.start))
  where
    at : Below (r.count + k) (d_of r.waits r.start) → (MachineCalls.run_on knot next k s r).answer ≡ (MachineCalls.run_on knot other k t r).answer
    at (below u _) = (runs_spent c r h k s u).says ∙ sym (runs_spent d r h k t u).says
    at (beyond u _) = runs_out c r h k s u ∙ sym (runs_out d r h k t u)

-- after every list: as many as are left suffice, and so does 2,048 always
pub ending_runs_out :
    (w : Waits) → Sound w → (s : ℕ) → IsProcess w.n s → (ed : ℕ) → IsEdition ed → (cs : List Call) (k : ℕ) →
    d_of w s ≤ (Lists.passed cs (start_run w s ed)).made + k →
    (run_on k (Lists.passed cs (start_run w s ed)).left).answer ≡ Ok (Ran.Over (d_of w s - (Lists.passed cs (start_run w s ed)).made))
unfolding Machines.start_run
ending_runs_out w sd s i ed named cs k enough =
    let u = upheld_list holds_upheld fixed_order fixed_order_finds cs (start_run w s ed) (holds_start w s ed sd i named) in
    let p : Passed Run = Lists.passed cs (start_run w s ed) in
    let count : p.left.count ≡ 0 + p.made = made_count u.0.made in
    let same : d_of p.left.waits p.left.start ≡ d_of w s = ap₂ d_of (made_waits u.0.made) (made_start u.0.made) in
    let is : d_of p.left.waits p.left.start - p.left.count ≡ d_of w s - p.made = omega arith in
    runs_out fixed_order_chooses p.left u.1 k 0 (omega arith) ∙ ap (λ n. Ok (Ran.Over n)) is

-- .. and leaves a run that is over
pub ending_over :
    (w : Waits) → Sound w → (s : ℕ) → IsProcess w.n s → (ed : ℕ) → IsEdition ed → (cs : List Call) (k : ℕ) →
    d_of w s ≤ (Lists.passed cs (start_run w s ed)).made + k →
    over (run_on k (Lists.passed cs (start_run w s ed)).left).run ≡ true
unfolding Machines.start_run
ending_over w sd s i ed named cs k enough =
    let u = upheld_list holds_upheld fixed_order fixed_order_finds cs (start_run w s ed) (holds_start w s ed sd i named) in
    let p : Passed Run = Lists.passed cs (start_run w s ed) in
    let count : p.left.count ≡ 0 + p.made = made_count u.0.made in
    let same : d_of p.left.waits p.left.start ≡ d_of w s = ap₂ d_of (made_waits u.0.made) (made_start u.0.made) in
    runs_over fixed_order_chooses p.left u.1 k 0 (omega arith)
