-- `region_tests::is_edition_word` meets its contract: the word is a number, and the number an edition.
use Rattle.std.proofs.Common.{◌≡◌, sym, ap, ◌∙◌, pos, nat_abs, get_or, arith}
use Rattle.checks.specs.Run.{is_edition}
use Rattle.areas.specs.Places.{edition_place}
use Rattle.areas.specs.Area.{number_at, same_word}
use Rattle.areas.proofs.Signs.{word_read}
use Rattle.word_tests.specs.WordTests.{counts}
use Rattle.region_tests.specs.RegionTests.{edition_test}
use Rattle.region_tests.proofs.is_edition_word.Goals as goal

pub returns-then-not-is_number : goal.returns-then-not-is_number
unfolding edition_test
returns-then-not-is_number c =
    let sign : c.is_number.result ≡ counts c.args.area.now edition_place = word_read (λ z. same_word z (pos (nat_abs z))) (get_or c.args.area.now edition_place (pos 0)) (omega arith)
    c.is_number.ensures in
    rw (sym sign ∙ c.if-not-is_number.true)

pub returns : goal.returns
unfolding edition_test
returns c =
    let sign : c.is_number.result ≡ counts c.args.area.now edition_place = word_read (λ z. same_word z (pos (nat_abs z))) (get_or c.args.area.now edition_place (pos 0)) (omega arith)
    c.is_number.ensures in
    let number : c.unsigned_abs-edition.result ≡ number_at c.args.area.now edition_place = let w = c.args.area.now in
    word_read nat_abs (get_or w edition_place (pos 0)) (omega arith) c.unsigned_abs-edition.ensures.value in
    rw (sym sign ∙ c.if-not-is_number.false) (c.is_edition.ensures ∙ ap is_edition number)
