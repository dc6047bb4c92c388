-- `region_tests::has_numbers` meets its contract: each way out fails a part of the test, and the last passes all but one.
use Rattle.std.proofs.Common.{ℕ, ◌+◌, ◌^◌, ◌<◌, Bool, List, ◌≡◌, sym, ◌∙◌, arith, ℤ, pos, nat_abs, get_or, w32, to_z, of_z}
use lib.Signed.{mag}
use Rattle.areas.specs.Places.{flags_place, num_place, father_place}
use Rattle.areas.specs.Area.{number_at, same_word}
use Rattle.areas.specs.Tells.{Tells}
use Rattle.word_tests.specs.WordTests.{counts}
use Rattle.region_tests.specs.RegionTests.{numbers_test}
use Rattle.areas.proofs.Signs.{word_read}
use Rattle.region_tests.proofs.Ways.{tells_no, tells_last, failing, NumberParts, numbers_test_parts}
use Rattle.region_tests.proofs.has_numbers.Goals as goal

-- whether a word that was read is a number of 0 or more
abbrev counted : ℤ → Bool
counted z = same_word z (pos (nat_abs z))

sign : {r : Bool} (w : List ℤ) (k : ℕ) → mag (get_or w k (pos 0)) < 2 ^ 31 → r ≡ counted (to_z w32 (of_z w32 (get_or w k (pos 0)))) → r ≡ counts w k
sign w k h e = word_read counted (get_or w k (pos 0)) h e

pub returns-then-not-is_number : goal.returns-then-not-is_number
returns-then-not-is_number c =
    let flags-sign : let a = c.args in c.is_number.result ≡ counts a.area.now (a.k + flags_place) = let a = c.args in sign a.area.now (a.k + flags_place) (omega arith) c.is_number.ensures in
    let parts : Tells (numbers_test c.args.area.now c.args.k) (NumberParts c.args.area.now c.args.k) = numbers_test_parts c.args.area.now c.args.k in
    sym (tells_no parts (λ s. failing flags-sign c.if-not-is_number.true s.flags))

pub returns-then-unsigned_abs-gt7 : goal.returns-then-unsigned_abs-gt7
returns-then-unsigned_abs-gt7 c =
    let flags : let a = c.args in c.unsigned_abs.result ≡ number_at a.area.now (a.k + flags_place) = let a = c.args in
    word_read nat_abs (get_or a.area.now (a.k + flags_place) (pos 0)) (omega arith) c.unsigned_abs.ensures.value in
    let parts : Tells (numbers_test c.args.area.now c.args.k) (NumberParts c.args.area.now c.args.k) = numbers_test_parts c.args.area.now c.args.k in
    sym (tells_no parts (λ s. omega (arith, flags, c.if-unsigned_abs-gt7.true, s.bits)))

pub returns-then-not-is_number-2 : goal.returns-then-not-is_number-2
returns-then-not-is_number-2 c =
    let num-sign : let a = c.args in c.is_number-2.result ≡ counts a.area.now (a.k + num_place) = let a = c.args in
    sign a.area.now (a.k + num_place) (omega arith) c.is_number-2.ensures in
    let parts : Tells (numbers_test c.args.area.now c.args.k) (NumberParts c.args.area.now c.args.k) = numbers_test_parts c.args.area.now c.args.k in
    sym (tells_no parts (λ s. failing num-sign c.if-not-is_number-2.true s.num_word))

pub returns : goal.returns
returns c =
    let flags-sign : let a = c.args in c.is_number.result ≡ counts a.area.now (a.k + flags_place) = let a = c.args in sign a.area.now (a.k + flags_place) (omega arith) c.is_number.ensures in
    let flags : let a = c.args in c.unsigned_abs.result ≡ number_at a.area.now (a.k + flags_place) = let a = c.args in
    word_read nat_abs (get_or a.area.now (a.k + flags_place) (pos 0)) (omega arith) c.unsigned_abs.ensures.value in
    let num-sign : let a = c.args in c.is_number-2.result ≡ counts a.area.now (a.k + num_place) = let a = c.args in
    sign a.area.now (a.k + num_place) (omega arith) c.is_number-2.ensures in
    let parts : Tells (numbers_test c.args.area.now c.args.k) (NumberParts c.args.area.now c.args.k) = numbers_test_parts c.args.area.now c.args.k in
    let last = sign c.args.area.now (c.args.k + father_place) (omega arith) c.is_number-3.ensures in
    tells_last parts (λ t. record {
      flags = sym flags-sign ∙ c.if-not-is_number.false;
      bits = omega (arith, flags, c.if-unsigned_abs-gt7.false);
      num_word = sym num-sign ∙ c.if-not-is_number-2.false;
      father_word = sym last ∙ t;
    }) (λ t. last ∙ t.father_word)
