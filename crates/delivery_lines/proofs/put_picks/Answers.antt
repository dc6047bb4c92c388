-- `delivery_lines::put_picks` meets its contract. The loop's invariant: the area is ready, the picks from j on are left to make, from this area on,
-- and of the lines of all picks theirs are left to put. The measure is how many they are.
use Rattle.std.proofs.Common.{ℕ, suc, ◌+◌, ◌-◌, ◌≤◌, ◌<◌, List, ◌≡◌, refl, sym, ap, ◌∙◌, arith, ℤ}
use Rattle.machine.specs.Lists.{in_turn}
use Rattle.checks.specs.Lists.{passed}
use Rattle.areas.specs.Area.{run_in}
use Rattle.lenses.specs.Ready.{Ready}
use Rattle.area_calls.specs.AreaCalls.{pick_answer, pick_area}
use Rattle.tables.specs.declared.Sizes.{Sizes}
use Rattle.inputs.specs.declared.Pick.{Pick}
use Rattle.inputs.specs.Input.{picks_in, pick_from, pick_to, pick_in}
use Rattle.program_text.specs.Program.{picks_on, pick_calls, pick_line, picks_text}
use Rattle.delivery_lines.proofs.Partly.{partly_next, partly_room, partly_last}
use Rattle.delivery_lines.proofs.Turning.{picked, picks_next, picks_none}
use Rattle.delivery_lines.proofs.put_picks.Invariants.{Rest}
use Rattle.delivery_lines.proofs.put_picks.Goals as goal

module _ (bs : List ℕ) (picks : ℕ) (w : List ℤ) where
  rest_all : picks ≡ picks_in bs → Rest bs picks w 0 w
  rest_all e = let z : picks_in bs ≡ picks - 0 = omega arith in ap (λ (k : ℕ). (passed (picks_on bs 0 k) (run_in w)).left) z

  module _ (j : ℕ) (v : List ℤ) (r : Rest bs picks w j v) where
    -- pick j is made
    rest_next : {s : Sizes} → Ready v s → j < picks → (p : Pick) → p ≡ pick_in bs j → (u : List ℤ)
        → u ≡ pick_area v p.from p.to 1 → Rest bs picks w (j + 1) u
    unfolding picks_on in_turn pick_in
    rest_next y h p e u f =
        let more : picks - j ≡ suc (picks - (j + 1)) = omega arith in
        let up : suc j ≡ j + 1 = omega arith in
        let here : (passed (pick_calls bs) (run_in w)).left ≡ (passed (picks_on bs j (suc (picks - (j + 1)))) (run_in v)).left =
        r ∙ ap (λ (k : ℕ). (passed (picks_on bs j k) (run_in v)).left) more in
        here ∙ rw (f, e, picked y (pick_from bs j) (pick_to bs j), up)

    -- none is left
    rest_none : picks ≤ j → run_in v ≡ (passed (pick_calls bs) (run_in w)).left
    unfolding picks_on in_turn
    rest_none h = let z : picks - j ≡ 0 = omega arith in sym (r ∙ ap (λ (k : ℕ). (passed (picks_on bs j k) (run_in v)).left) z)

pub put_pick-requires-clause-room : goal.put_pick-requires-clause-room
put_pick-requires-clause-room c =
    let inv = c.loop-j.invariant in
    let y = inv.2 in
    let this = c.pick_at.result in
    let v = pick_area c.loop-j.area this.from this.to 1 in
    let line = picks_next _ _ _ y c.loop-j-test.true this c.pick_at.ensures refl in
    let rest = picks_text c.args.input.now (c.loop-j.j + 1) (c.args.begun.picks - (c.loop-j.j + 1)) (run_in v) in
    partly_room (pick_line this.from this.to (pick_answer c.loop-j.area this.from this.to 1)) rest inv.4 line c.requires.room

pub loop-j-preserved : goal.loop-j-preserved
loop-j-preserved c =
    let inv = c.loop-j.invariant in
    let this = c.pick_at.result in
    let test = c.loop-j-test.true in (
      omega arith,
      c.put_pick.auto.area ∙ inv.1,
      c.put_pick.ensures.ready_after,
      rest_next _ _ _ _ _ inv.3 inv.2 test this c.pick_at.ensures _ c.put_pick.ensures.area_after,
      partly_next inv.4 (picks_next _ _ _ inv.2 test this c.pick_at.ensures c.put_pick.ensures.area_after) c.put_pick.ensures.put,
    )

pub returns-clause-put : goal.returns-clause-put
returns-clause-put c = partly_last c.loop-j.invariant.4 (picks_none _ _ _ _ c.loop-j-test.false)

pub returns-clause-area_after : goal.returns-clause-area_after
returns-clause-area_after c = rest_none _ _ _ _ _ c.loop-j.invariant.3 c.loop-j-test.false
