-- `remembering::noting::note_taken` meets its contract.
use Rattle.areas.specs.Area.{run_in}
use Rattle.remembering.proofs.Following.{process_most, taken_falls}
use Rattle.remembering.proofs.noting.note_taken.Goals as goal

pub unmark-requires-clause-sender : goal.unmark-requires-clause-sender
unmark-requires-clause-sender c = process_most c.args.area.ready c.requires.ends.0

pub unmark-requires-clause-receiver : goal.unmark-requires-clause-receiver
unmark-requires-clause-receiver c = process_most c.args.area.ready c.requires.ends.1

pub returns-then-not-is_waiting : goal.returns-then-not-is_waiting
returns-then-not-is_waiting c =
    taken_falls _ _ ((run_in c.args.area.words.now).link c.args.link.from c.args.link.to) c.is_waiting.ensures c.if-not-is_waiting.true c.unmark.ensures
