-- `word_tests::is_number` meets its contract: the word comes back from its bits, and is the word of its number exactly if it is not below 0.
use Rattle.std.proofs.Common.{◌≡◌, refl, sym, ◌∙◌, ℤ, pos, negsuc, nat_abs, eq-eqb}
use lib.Dec.{leb-zero}
use lib.Signed.{le_z}
use Rattle.areas.specs.Area.{same_word}
use Rattle.areas.specs.WordTestLaws.{both_leb}
use Rattle.steps.proofs.Counts.{signed_back}
use Rattle.word_tests.proofs.is_number.Goals as goal

test : (z : ℤ) → le_z (pos 0) z ≡ same_word z (pos (nat_abs z))
unfolding same_word
test (pos n) = leb-zero n ∙ sym (both_leb n n ∙ eq-eqb n n refl)
test (negsuc n) = refl

pub returns : goal.returns
returns c = rw (signed_back c.args.word c.ranges.word.sfits) (test c.args.word)
