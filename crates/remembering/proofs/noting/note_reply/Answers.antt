-- `remembering::noting::note_reply` meets its contract.
use Rattle.std.proofs.Common.{ℕ, true, List, ◌≡◌, Option, Some, None}
use Rattle.steps.specs.declared.Reply.{Reply}
use Rattle.preparing.specs.Receiving.{reply_goes}
use Rattle.marks.specs.Changes.{turned, Turns}
use Rattle.remembering.specs.Noting.{sent_marks}
use Rattle.remembering.proofs.Following.{sent_nobody, sent_one}
use Rattle.remembering.proofs.noting.note_reply.Goals as goal

nothing : (b : ℕ) {z : Option Reply} → z ≡ None → {l : List ℕ} → Turns l (λ held. sent_marks held b (reply_goes z)) l
nothing b e = rw e (sent_nobody b)

one : (b : ℕ) (y : Reply) {z : Option Reply} → z ≡ Some y → {l k : List ℕ} → Turns l (λ held. turned held b y.to true) k
    → Turns l (λ held. sent_marks held b (reply_goes z)) k
one b y e t = rw e (sent_one b y.to t)

pub returns-in_default : goal.returns-in_default
returns-in_default c = nothing c.args.b c.in_default.is

pub returns-in-Some : goal.returns-in-Some
returns-in-Some c = one c.args.b _ c.in-Some.is c.mark.ensures
