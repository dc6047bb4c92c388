-- A set of numbers as the binary digits of a word, the lowest first.
--   digits k f     == the word of k digits whose digit i is 1 exactly if f i
-- Assumes nothing.
use Rattle.std.specs.Prelude.{ℕ, zero, suc, ◌+◌, ◌*◌, Bool}
use Rattle.base.specs.Choice.{bit}

unfoldable pub digits : ℕ → (ℕ → Bool) → ℕ
digits zero f = 0
digits (suc k) f = bit (f 0) + 2 * digits k (λ i. f (suc i))
