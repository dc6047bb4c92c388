-- `delivery_lines::put_owns` meets its contract. The loop's invariant is a turn of running on (runs, proofs/Turns) by as many deliveries as a run
-- counts at most, with what is remembered of the area, and of all lines those from this area on are left to put. The measure is the turns that
-- are left.
use Rattle.std.proofs.Common.{◌+◌, ◌-◌, ◌≤◌, ◌<◌, refl, sym, ap, ◌∙◌, arith}
use Rattle.base.specs.Choice.{bit}
use Rattle.checks.specs.Run.{knot}
use Rattle.areas.specs.Area.{run_in, keeping}
use Rattle.lenses.proofs.Holding.{holding_ready}
use Rattle.machine.specs.Calls.{fixed_order}
use Rattle.choosing.specs.OrderLaws.{lowest_names}
use Rattle.runs.proofs.Kept.{running_holds}
use Rattle.runs.proofs.Turns.{turn_first, turn_over, turn_full, turn_unmade, turn_made}
use Rattle.choosing.specs.Answers.{next_of}
use Rattle.program_text.specs.Program.{next_chosen, own_line, unless_refused, own_text}
use Rattle.delivery_lines.proofs.Partly.{partly_first, partly_next, partly_room, partly_last}
use Rattle.program_text.specs.OwnLaws.{own_over}
use Rattle.delivery_lines.proofs.Turning.{ran_out, own_full, own_next, follows_made, follows_none}
use Rattle.delivery_lines.proofs.put_owns.Goals as goal

pub loop-turn-init : goal.loop-turn-init
loop-turn-init c = (turn_first fixed_order 0 c.requires.running.ready, c.requires.remembers, partly_first)

pub invariant_of-is_over : goal.invariant_of-is_over
invariant_of-is_over c = record { ready = holding_ready c.requires.running.ready c.loop-turn.invariant.0.holds }

pub returns-then-is_over : goal.returns-then-is_over
returns-then-is_over c =
    let y = c.requires.running in
    let t = c.loop-turn.invariant.0 in
    record {
      put = partly_last c.loop-turn.invariant.2 (own_over _ _ (sym c.is_over.ensures ∙ c.if-is_over.true));
      area_after = ran_out y.ready (turn_over fixed_order 0 y.ready t c.is_over.ensures c.if-is_over.true).1;
      running_after = running_holds y t.holds;
    }

pub put_own-requires : goal.put_own-requires
put_own-requires c =
    let y = running_holds c.requires.running c.loop-turn.invariant.0.holds in
    let more : c.loop-turn.turn < knot.most = omega (arith, c.loop-turn-test.true) in
    let line = own_next y.ready (sym c.is_over.ensures ∙ c.if-is_over.false) knot.most c.loop-turn.turn more refl in
    let r = run_in c.loop-turn.area in
    let rest = unless_refused (next_chosen r) (own_text (knot.most - (c.loop-turn.turn + 1)) (run_in (keeping c.loop-turn.area (next_of r).run))) in
    record {
      running = y;
      remembers = c.loop-turn.invariant.1;
      room = partly_room (own_line (next_chosen r)) rest c.loop-turn.invariant.2 line c.requires.room;
    }

pub returns-then-not-put_own : goal.returns-then-not-put_own
returns-then-not-put_own c =
    let inv = c.loop-turn.invariant in
    let y = c.requires.running in
    let none = sym c.put_own.ensures.made ∙ ap bit c.if-not-put_own.true in
    let more : c.loop-turn.turn < knot.most = omega (arith, c.loop-turn-test.true) in
    let go = sym c.is_over.ensures ∙ c.if-is_over.false in
    let line = own_next (holding_ready y.ready inv.0.holds) go knot.most c.loop-turn.turn more c.put_own.ensures.area_after in
    let end = turn_unmade fixed_order 0 y.ready inv.0 c.is_over.ensures c.if-is_over.false lowest_names more c.put_own.ensures.area_after none in
    record {
      put = partly_last (partly_next inv.2 line c.put_own.ensures.put) (follows_none _ _ none);
      area_after = ran_out y.ready end;
      running_after = c.put_own.ensures.running_after;
    }

pub loop-turn-preserved : goal.loop-turn-preserved
loop-turn-preserved c =
    let inv = c.loop-turn.invariant in
    let y = c.requires.running in
    let one = sym c.put_own.ensures.made ∙ ap bit c.if-not-put_own.false in
    let more : c.loop-turn.turn < knot.most = omega (arith, c.loop-turn-test.true) in
    let go = sym c.is_over.ensures ∙ c.if-is_over.false in
    let line = own_next (holding_ready y.ready inv.0.holds) go knot.most c.loop-turn.turn more c.put_own.ensures.area_after in
    let next = turn_made fixed_order 0 y.ready inv.0 c.is_over.ensures c.if-is_over.false lowest_names more c.put_own.ensures.area_after one in
    (next, c.put_own.ensures.remembers_after, rw (follows_made _ _ one) at (partly_next inv.2 line c.put_own.ensures.put))

pub returns : goal.returns
returns c =
    let y = c.requires.running in
    let t = c.loop-turn.invariant.0 in
    let all : knot.most ≤ c.loop-turn.turn = omega (arith, c.loop-turn-test.false) in
    record {
      put = partly_last c.loop-turn.invariant.2 (own_full _ _ _ all);
      area_after = ran_out y.ready (turn_full fixed_order 0 y.ready t all);
      running_after = running_holds y t.holds;
    }
