-- What the code answers for a choice and for the delivery on it, whatever the order; and the delivery by a state, and in the fixed order.
--   chosen_of c          == the answer for a choice: its link, or nobody
--   chosen_answer c d    == the answer of the delivery d on the choice c: the message with its link, or the refusal
--   drawn_of s r         == the delivery by a state of a shuffled run (02, N13)
--   next_of r            == the delivery in the fixed order, "lowest receiver first and then lowest sender" (02, N11)
-- Assumes nothing.
use Rattle.std.specs.Prelude.{ℕ, Option, Some, None, Result, Ok, Err}
use Rattle.refusals.specs.declared.Refusal.{Refusal}
use Rattle.refusals.specs.Numbers.{numbered}
use Rattle.steps.specs.declared.Message.{Message}
use Rattle.checks.specs.Run.{Run}
use Rattle.checks.specs.Calls.{Picked, deliver_on}
use Rattle.machine.specs.Calls.{Selection, nobody, pair, lowest, drawn}
use Rattle.choosing.specs.declared.Link.{Link}
use Rattle.choosing.specs.declared.ChosenDelivery.{ChosenDelivery}

abbrev pub chosen_of : Selection → Option Link
chosen_of nobody = None
chosen_of (pair a b) = Some (record { from = a; to = b })

-- 01's number and the values for each case of the answer: 0 with the link and its message. With no link chosen the delivery is refused by
-- 24, so the first line is never met
abbrev pub chosen_answer : Selection → Result Message Refusal → Result ChosenDelivery Refusal
chosen_answer nobody (Ok m) = Err (numbered 24)
chosen_answer nobody (Err e) = Err e
chosen_answer (pair a b) (Ok m) = Ok (record { from = a; to = b; message = m })
chosen_answer (pair a b) (Err e) = Err e

-- the delivery of the oldest message on the link that a state points to
abbrev pub drawn_of : ℕ → Run → Picked
drawn_of s r = deliver_on r (drawn s r)

abbrev pub next_of : Run → Picked
next_of r = deliver_on r (lowest r)
