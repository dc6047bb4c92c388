-- `remembering::noting::note` meets its contract: the three parts one after another.
use Rattle.std.proofs.Common.{ℕ, List, Option}
use Rattle.machine.specs.Calls.{waiting}
use Rattle.checks.specs.Run.{Run}
use Rattle.areas.specs.Area.{run_in}
use Rattle.steps.specs.declared.Probes.{Probes}
use Rattle.steps.specs.declared.Reply.{Reply}
use Rattle.preparing.specs.Receiving.{probes_go, reply_goes}
use Rattle.marks.specs.Changes.{Turns}
use Rattle.remembering.specs.Noting.{taken_marks, sent_marks, noted_marks}
use Rattle.remembering.proofs.Following.{process_most}
use Rattle.remembering.proofs.noting.note.Goals as goal

all_parts : (r : Run) (a b : ℕ) (y : Probes) (z : Option Reply) {l i j k : List ℕ}
    → Turns l (taken_marks (waiting (r.link a b)) a b) i
    → Turns i (λ held. sent_marks held b (reply_goes z)) j
    → Turns j (λ held. sent_marks held b (probes_go r.waits y b)) k
    → Turns l (noted_marks r a b y z) k
all_parts r a b y z t u v held h = v _ (u _ (t held h))

pub note_reply-requires-clause-sender : goal.note_reply-requires-clause-sender
note_reply-requires-clause-sender c = process_most c.args.area.ready c.requires.ends.1

pub returns : goal.returns
returns c =
    let a = c.args in
    all_parts (run_in a.area.words.now) a.link.from a.link.to a.sent.probes a.sent.reply c.note_taken.ensures c.note_reply.ensures c.note_probes.ensures
