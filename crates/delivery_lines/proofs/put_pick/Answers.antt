-- `delivery_lines::put_pick` meets its contract: the line is that of the pick's answer, the area is the one that a pick leaves, and it is ready.
use Rattle.std.proofs.Common.{ℕ, List, ◌≡◌, ℤ}
use Rattle.tables.specs.declared.Sizes.{Sizes}
use Rattle.lenses.specs.Ready.{Ready}
use Rattle.area_calls.specs.AreaCalls.{pick_area}
use Rattle.picks.proofs.Kept.{pick_ready}
use Rattle.delivery_lines.proofs.put_pick.Goals as goal

picked_ready : {w : List ℤ} {s : Sizes} → Ready w s → (a b k : ℕ) {v : List ℤ} → v ≡ pick_area w a b k → Ready v s
picked_ready y a b k e = rw e (pick_ready y a b k)

pub returns-clause-ready_after : goal.returns-clause-ready_after
returns-clause-ready_after c = picked_ready c.requires.ready c.args.pick.from c.args.pick.to 1 c.pick_in-answer.ensures.area_after

pub returns-in_default-clause-ready_after : goal.returns-in_default-clause-ready_after
returns-in_default-clause-ready_after c = picked_ready c.requires.ready c.args.pick.from c.args.pick.to 1 c.pick_in-answer.ensures.area_after
