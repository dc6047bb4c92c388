-- The tests of words, and of a link, in the order that the code follows.
--   counts w k, is_free w k, are_free w i e   == word k is a number of 0 or more; it is 0; the words from i up to e are 0
--   message_word z     == z is the word of a message of the three kinds, with its counts in range
--   link_test s z w i  == the link at word i, of s slots and z words: messages of the three kinds with counts in range, then zeros
-- Assumes nothing.
use Rattle.std.specs.Prelude.{ℕ, ◌+◌, ◌-◌, Bool, ◌&&◌, List, get_or, ℤ, pos}
use Rattle.base.specs.Sums.{all_to}
use Rattle.steps.specs.Step.{count_small}
use Rattle.checks.specs.Run.{counts_small}
use Rattle.areas.specs.Area.{code_of, slot_word, number_at}
use Rattle.areas.specs.Area.{message_of, messages_at, same_word}

-- a word is a number of 0 or more
abbrev pub counts : List ℤ → ℕ → Bool
counts w k = same_word (get_or w k (pos 0)) (pos (number_at w k))

-- a word is 0
abbrev pub is_free : List ℤ → ℕ → Bool
is_free w k = same_word (get_or w k (pos 0)) (pos 0)

-- the words from word i up to word e are 0
abbrev pub are_free : List ℤ → ℕ → ℕ → Bool
are_free w i e = all_to (e - i) (λ j. is_free w (i + (j - 1)))

-- "messages of the three kinds with counts in range"
abbrev pub message_word : ℤ → Bool
message_word z = same_word z (code_of (message_of z)) && count_small (message_of z)

unfoldable pub link_test : ℕ → ℕ → List ℤ → ℕ → Bool
link_test slots size w i =
    counts_small (messages_at w i slots) &&
    all_to size (λ j. same_word (get_or w (i + (j - 1)) (pos 0)) (slot_word (messages_at w i slots) (j - 1)))
