-- The words of a case, and the steps by which cases are taken.
--   word_at bytes k      == word k of the bytes, counted from 0, of four bytes each, low byte first; 0 if there is none
--   StepsTaken R f k x   == by R, steps were taken from the state f on, with the numbers k, k + 1 and so on, and x is how they ended
-- Assumes nothing.
use Rattle.std.specs.Prelude.{ℕ, ◌+◌, ◌/◌, ◌^◌, ◌<◌, ◌≡◌, Bool, true, false, ⊤, List, Result, Ok, Err, length, unwrap_or, option_map, slice_get}
use Rattle.std.specs.Int.{from_le_bytes}
use Rattle.std.specs.Simd.{first_chunks}
use mir.Syntax.{w32}

abbrev pub word_at : List ℕ → ℕ → ℕ
word_at bytes k = unwrap_or (option_map (from_le_bytes w32) (slice_get (first_chunks 4 (length bytes / 4) bytes) k)) 0

-- each step says to go on, up to one that says that it was the last, or one that fails, or till all numbers below 2 ^ 64 are used
pub data StepsTaken {F E : Type 0} (R : F → ℕ → Result Bool E → F → Type 0) : F → ℕ → Result ⊤ E → Type 0 where
  stopped : {f g : F} {k : ℕ} → k < 2 ^ 64 → R f k (Ok false) g → StepsTaken R f k (Ok tt)
  failed : {f g : F} {k : ℕ} {e : E} → k < 2 ^ 64 → R f k (Err e) g → StepsTaken R f k (Err e)
  went_on : {f g : F} {k : ℕ} {x : Result ⊤ E} → k < 2 ^ 64 → R f k (Ok true) g → StepsTaken R g (k + 1) x → StepsTaken R f k x
  numbers_used : {f : F} {k : ℕ} → k ≡ 2 ^ 64 → StepsTaken R f k (Ok tt)
