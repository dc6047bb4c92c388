-- What is answered: a delivery before anything is changed, and what is told of it.
--   deliver_at r a b k     == the delivery of the message at place k of the link from a to b
--   prepared_with r a b m rest   == the delivery of m, where rest stays, as far as nothing is changed: 22, or what the receiver's step leaves
--                            and sends
--   PreparedFor w a b m d == d is that of m in the area w, wherever m stands on its link
--   prepared_of r a b k ms == the same of the message at place k: 24, then 31, then 22
--   told_of p, told_at r a b k   == what is told of a prepared delivery once it is carried out: its message and what was sent, or its refusal
-- Assumes nothing.
use Rattle.std.specs.Prelude.{ℕ, List, [], ◌∷◌, ◌≡◌, ℤ, Result, Ok, Err}
use Rattle.base.specs.Choice.{choose}
use Rattle.refusals.specs.declared.Refusal.{Refusal}
use Rattle.refusals.specs.Numbers.{numbered}
use Rattle.steps.specs.declared.Message.{Message}
use Rattle.checks.specs.Run.{Run, turn_at, accepts}
use Rattle.checks.specs.Calls.{Picked, deliver}
use Rattle.machine.specs.Calls.{Cut, nowhere, cut, at_place}
use Rattle.machine.specs.Among.{Among}
use Rattle.areas.specs.Area.{run_in}
use Rattle.delivery.specs.declared.delivering.Prepared.{Prepared}
use Rattle.delivery.specs.declared.delivering.Delivered.{Delivered}

-- the delivery of the message at place k of the link from a to b
abbrev pub deliver_at : Run → ℕ → ℕ → ℕ → Picked
deliver_at r a b k = deliver r a b k (r.link a b)

-- ---- before anything is changed

-- 22, or what the receiver's step leaves and sends
unfoldable pub prepared_with : Run → ℕ → ℕ → Message → List Message → Result Prepared Refusal
prepared_with r a b m rest = choose (accepts r a b m rest) (Ok (record { message = m; turn = turn_at r a b m })) (Err (numbered 22))

-- d is the prepared delivery of m, wherever on the link from a to b it stands
abbrev pub PreparedFor : List ℤ → ℕ → ℕ → Message → Result Prepared Refusal → Type 0
PreparedFor w a b m d = (rest : List Message) → Among m rest ((run_in w).link a b) → d ≡ prepared_with (run_in w) a b m rest

-- 31, "a place that is 0 or beyond the messages waiting" (02, N5), then 22
abbrev pub prepared_found : Run → ℕ → ℕ → Cut Message → Result Prepared Refusal
prepared_found r a b nowhere = Err (numbered 31)
prepared_found r a b (cut m rest) = prepared_with r a b m rest

-- 24, "nothing waits on that link", then 31, 22
unfoldable pub prepared_of : Run → ℕ → ℕ → ℕ → List Message → Result Prepared Refusal
prepared_of r a b k [] = Err (numbered 24)
prepared_of r a b k (m ∷ ms) = prepared_found r a b (at_place k (m ∷ ms))

-- what is told of a prepared delivery once it is carried out
abbrev pub told_of : Result Prepared Refusal → Result Delivered Refusal
told_of (Ok p) = Ok (record { message = p.message; sent = p.turn.sent })
told_of (Err e) = Err e

abbrev pub told_at : Run → ℕ → ℕ → ℕ → Result Delivered Refusal
told_at r a b k = told_of (prepared_of r a b k (r.link a b))
