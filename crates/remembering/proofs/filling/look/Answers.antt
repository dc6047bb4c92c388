-- `remembering::filling::look` meets its contract.
use Rattle.areas.specs.Area.{run_in}
use Rattle.remembering.proofs.Following.{process_most}
use Rattle.remembering.proofs.Looking.{looked_some}
use Rattle.remembering.proofs.filling.look.Goals as goal

pub mark-requires : goal.mark-requires
mark-requires c =
    record { sender = process_most c.args.area.ready c.requires.ends.0; receiver = process_most c.args.area.ready c.requires.ends.1 }

pub returns-then-is_waiting_at : goal.returns-then-is_waiting_at
returns-then-is_waiting_at c = looked_some (run_in c.args.area.words.now) _ _ c.is_waiting_at.ensures c.if-is_waiting_at.true c.mark.ensures
