-- `runs::running::drive` meets its contract. The loop's invariant is `Turn`, with what is remembered of the area; the measure is the
-- deliveries that are left.
use Rattle.std.proofs.Common.{ℕ, List, ◌≡◌, sym, ℤ, Result}
use Rattle.refusals.specs.declared.Refusal.{Refusal}
use Rattle.tables.specs.declared.Sizes.{Sizes}
use Rattle.lenses.proofs.Holding.{holding_ready}
use Rattle.machine.specs.Calls.{drawn, shuffled_order}
use Rattle.shuffling.specs.Shuffle.{moved_on}
use Rattle.choosing.specs.declared.ChosenDelivery.{ChosenDelivery}
use Rattle.choosing.specs.OrderLaws.{drawn_names}
use Rattle.choosing.proofs.OnLink.{Left, left-refusal, left-message}
use Rattle.runs.proofs.Kept.{running_holds}
use Rattle.runs.proofs.Turns.{turn_first, turn_over, turn_spent, turn_refused, turn_next}
use Rattle.runs.proofs.running.drive.Goals as goal

-- what a delivery leaves, by the state that was moved on
left : (w : List ℤ) {sq : List ℕ} {s : Sizes} {x : Result ChosenDelivery Refusal} {v : List ℤ} {l : List ℕ} {i j : ℕ} → i ≡ j
    → Left (drawn i) w sq s x v l → Left (drawn j) w sq s x v l
left w e h = rw (sym e) h

pub loop-sizes-init : goal.loop-sizes-init
loop-sizes-init c = (turn_first shuffled_order c.args.seed c.requires.running.ready, c.requires.remembers)

pub invariant_of-is_over : goal.invariant_of-is_over
invariant_of-is_over c = record { ready = holding_ready c.requires.running.ready c.loop-sizes.invariant.0.holds }

pub returns-then-is_over : goal.returns-then-is_over
returns-then-is_over c =
    let h = turn_over shuffled_order c.args.seed c.requires.running.ready c.loop-sizes.invariant.0 c.is_over.ensures c.if-is_over.true in
    record { answer = h.0; area_after = h.1 }

pub returns-then-made-k : goal.returns-then-made-k
returns-then-made-k c =
    let h = turn_spent shuffled_order c.args.seed c.requires.running.ready c.loop-sizes.invariant.0 c.is_over.ensures c.if-is_over.false c.if-made-k.true in
    record { answer = h.0; area_after = h.1 }

pub deliver_drawn-requires-clause-running : goal.deliver_drawn-requires-clause-running
deliver_drawn-requires-clause-running c = running_holds c.requires.running c.loop-sizes.invariant.0.holds

pub returns-in-Err : goal.returns-in-Err
returns-in-Err c =
    let y = c.requires.running in
    let t = c.loop-sizes.invariant.0 in
    let s = moved_on c.loop-sizes.state in
    let d = c.deliver_drawn.ensures in
    let h = left c.loop-sizes.area c.moved_on-state.ensures (d.told, (d.area_after, (d.remembers_after, d.running_after))) in
    let end = turn_refused shuffled_order c.args.seed y.ready t c.is_over.ensures c.if-is_over.false (drawn_names s) c.if-made-k.false h.1.0
    (left-refusal (drawn s) (drawn_names s) (running_holds y t.holds) h c.in-Err.is) in
    record { answer = end.0; area_after = end.1 }

pub loop-sizes-preserved : goal.loop-sizes-preserved
loop-sizes-preserved c =
    let y = c.requires.running in
    let t = c.loop-sizes.invariant.0 in
    let s = moved_on c.loop-sizes.state in
    let d = c.deliver_drawn.ensures in
    let h = left c.loop-sizes.area c.moved_on-state.ensures (d.told, (d.area_after, (d.remembers_after, d.running_after))) in
    let next = turn_next shuffled_order c.args.seed y.ready t c.is_over.ensures c.if-is_over.false (drawn_names s) c.if-made-k.false h.1.0
    (left-message (drawn s) (drawn_names s) (running_holds y t.holds) h c.in_default.is) in
    (rw c.moved_on-state.ensures next, h.1.1.0)
