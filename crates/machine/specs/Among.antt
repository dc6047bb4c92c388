-- One message of a link, wherever it stands there (02, N5). What is kept and counted of a run knows of a delivery no more than this, so
-- nothing that is promised leans on the order in which a link keeps its messages.
--   Among m rest ms   == m is one of ms, and rest are the others in their order
--   Between k ms m rest   == m stands at place k of ms, and rest are those before it and then those behind it
--   Placed k ms c     == c is what stands at place k of ms: such a message with the others, or nothing where k is 0 or beyond them
--   Here k ms         == a message stands at place k
-- Assumes nothing.
use Rattle.std.specs.Prelude.{ℕ, ◌+◌, ◌<◌, List, ◌∷◌, ◌++◌, ◌≡◌, ◌⊎◌, length}
use Rattle.machine.specs.Calls.{Cut, nowhere, cut, at_place}

pub data Among {M : Type 0} (m : M) : List M → List M → Type 0 where
  oldest : {ms : List M} → Among m ms (m ∷ ms)
  later : {x : M} {rest ms : List M} → Among m rest ms → Among m (x ∷ rest) (x ∷ ms)

-- "that message is taken out of the middle", and the others keep their order
pub record Between {M : Type 0} (k : ℕ) (ms : List M) (m : M) (rest : List M) : Type 0 where
  pub front : List M
  pub back : List M
  pub place : length front + 1 ≡ k
  pub link : ms ≡ front ++ (m ∷ back)
  pub stay : rest ≡ front ++ back

pub data Placed {M : Type 0} (k : ℕ) (ms : List M) : Cut M → Type 0 where
  there : {m : M} {rest : List M} → Between k ms m rest → Placed k ms (cut m rest)
  not_there : (k ≡ 0) ⊎ (length ms < k) → Placed k ms nowhere

pub record Here {M : Type 0} (k : ℕ) (ms : List M) : Type 0 where
  pub message : M
  pub rest : List M
  pub is : at_place k ms ≡ cut message rest
  pub among : Among message rest ms
