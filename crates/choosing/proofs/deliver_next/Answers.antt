-- `choosing::deliver_next` meets its contract: the fixed order is that of state 0.
use Rattle.std.proofs.Common.{sym}
use Rattle.machine.proofs.ChooserLaws.{drawn_zero}
use Rattle.areas.specs.Area.{run_in}
use Rattle.choosing.proofs.deliver_next.Goals as goal

pub returns-clause-told : goal.returns-clause-told
returns-clause-told c =
    rw (sym (drawn_zero (run_in c.args.area.now))) c.deliver_drawn.ensures.told

pub returns-clause-area_after : goal.returns-clause-area_after
returns-clause-area_after c =
    rw (sym (drawn_zero (run_in c.args.area.now))) c.deliver_drawn.ensures.area_after
