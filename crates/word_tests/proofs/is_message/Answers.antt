-- `word_tests::is_message` meets its contract: a word below 0 is no message, and any other word is that of the message that it
-- holds, so that the counts alone decide.
use Rattle.std.proofs.Common.{◌<◌, ◌^◌, ◌≡◌, refl, ap, ◌∙◌, ◌&&◌, Bool, ℤ, pos, negsuc, nat_abs, sym, w32, to_z, of_z, eq-eqb}
use lib.Dec.{leb-zero}
use lib.Signed.{mag, le_z}
use Rattle.steps.specs.Step.{count_small}
use Rattle.areas.specs.Area.{message_of, same_word}
use Rattle.areas.specs.LinkLaws.{code_of_message_of}
use Rattle.areas.proofs.Signs.{word_read}
use Rattle.areas.specs.WordTestLaws.{both_leb}
use Rattle.word_tests.specs.WordTests.{message_word}
use Rattle.word_tests.proofs.is_message.Goals as goal

-- a word is the word of its number exactly if it is not below 0
high : (z : ℤ) → le_z (pos 0) z ≡ same_word z (pos (nat_abs z))
unfolding same_word
high (pos n) = leb-zero n ∙ sym (both_leb n n ∙ eq-eqb n n refl)
high (negsuc n) = refl

-- the test of the definition, by the word's sign
by_sign : (z : ℤ) → message_word z ≡ (le_z (pos 0) z && count_small (message_of z))
by_sign z = rw (code_of_message_of z, high z)

-- what the code says of the sign of a word that was read back
told : (z : ℤ) {t : Bool} → mag z < 2 ^ 31 → le_z (pos 0) (to_z w32 (of_z w32 z)) ≡ t → le_z (pos 0) z ≡ t
told z f p = sym (word_read (λ y. le_z (pos 0) y) z f refl) ∙ p

pub returns-then-word-ge0 : goal.returns-then-word-ge0
returns-then-word-ge0 c =
    let z = c.args.word in
    rw (by_sign z, told z c.ranges.word.sfits c.if-word-ge0.true)
    (c.is_count_small.ensures ∙ ap count_small (word_read message_of z c.ranges.word.sfits c.message_of.ensures))

pub returns-else-word-ge0 : goal.returns-else-word-ge0
returns-else-word-ge0 c =
    let z = c.args.word in
    rw (by_sign z, told z c.ranges.word.sfits c.if-word-ge0.false) c.if-word-ge0.false
