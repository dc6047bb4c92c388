-- What waits at a place of a link, as code says it.
--   found_at c            == what was found at a place of a link on which something waits: 31, or a message
--   standing k ms        == what waits at place k: 24 if nothing waits on the whole link, 31 if none at that place, or a message
--   OneAt k ms x         == x is at that place
-- Assumes nothing.
use Rattle.std.specs.Prelude.{ℕ, List, [], ◌∷◌, ◌≡◌, Result, Ok, Err}
use Rattle.machine.specs.Calls.{Cut, nowhere, cut, at_place}
use Rattle.steps.specs.declared.Message.{Message}
use Rattle.refusals.specs.declared.Refusal.{Refusal}
use Rattle.refusals.specs.Numbers.{numbered}

abbrev pub found_at : Cut Message → Result Message Refusal
found_at nowhere = Err (numbered 31)
found_at (cut m rest) = Ok m

unfoldable pub standing : ℕ → List Message → Result Message Refusal
standing k [] = Err (numbered 24)
standing k (m ∷ ms) = found_at (at_place k (m ∷ ms))

-- what stays beside a message at that place
pub record OneAt (k : ℕ) (ms : List Message) (x : Message) : Type 0 where
  pub rest : List Message
  pub is : at_place k ms ≡ cut x rest
