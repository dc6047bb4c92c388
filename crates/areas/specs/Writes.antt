-- What the leaves that write words leave.
--   record_words x           == the words of a record that are in use
--   moved_word w i e k       == word k of w after the word i is taken out: the words behind it up to e are moved down by one, and the last is 0
--   moved_down w i e         == w after that
--   Packed w i e            == behind a 0 of the words from i up to e there are only zeros
-- Assumes nothing.
use Rattle.std.specs.Prelude.{ℕ, ◌+◌, ◌≤◌, ◌<◌, ◌&&◌, List, ◌≡◌, leb, ltb, length, get_or, ℤ, pos}
use Rattle.base.specs.Choice.{choose}
use Rattle.steps.specs.declared.Process.{Process}
use Rattle.areas.specs.Used.{record_used}
use Rattle.areas.specs.Area.{record_word, words_to}

unfoldable pub record_words : Process → List ℤ
record_words x = words_to record_used (record_word x)

unfoldable pub moved_word : List ℤ → ℕ → ℕ → ℕ → ℤ
moved_word w i e k =
    choose (leb i k && ltb k e)
    (choose (ltb (k + 1) e) (get_or w (k + 1) (pos 0)) (pos 0))
    (get_or w k (pos 0))

unfoldable pub moved_down : List ℤ → ℕ → ℕ → List ℤ
moved_down w i e = words_to (length w) (moved_word w i e)

abbrev pub Packed : List ℤ → ℕ → ℕ → Type 0
Packed w i e = (j k : ℕ) → i ≤ j → j ≤ k → k < e → get_or w j (pos 0) ≡ pos 0 → get_or w k (pos 0) ≡ pos 0
