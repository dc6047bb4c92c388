-- `region_tests::is_head` meets its contract: each way out fails a part of the test, and the last passes all but the zeros.
use Rattle.std.proofs.Common.{◌≡◌, sym, ◌∙◌, arith, List, ℤ, pos, nat_abs, get_or}
use Rattle.tables.specs.Table.{is_process}
use Rattle.areas.specs.Places.{start_place, count_place, field_place}
use Rattle.areas.specs.Used.{check_place}
use Rattle.areas.specs.Area.{knot_check, number_at, same_word}
use Rattle.word_tests.specs.WordTests.{counts}
use Rattle.areas.proofs.Signs.{word_read}
use Rattle.region_tests.proofs.Ways.{tells_no, tells_last, failing, head_test_parts}
use Rattle.region_tests.proofs.is_head.Goals as goal

pub returns-then-not-is_same : goal.returns-then-not-is_same
returns-then-not-is_same c =
    let at-check : List ℤ = c.args.area.now in
    let check : c.is_same.result ≡ same_word (get_or at-check check_place (pos 0)) knot_check = word_read (λ z. same_word z knot_check) (get_or at-check check_place (pos 0)) (omega arith) c.is_same.ensures in
    sym (tells_no (head_test_parts c.args.area.now) (λ s. failing check c.if-not-is_same.true s.check))

pub returns-then-not-is_number : goal.returns-then-not-is_number
returns-then-not-is_number c =
    let at-start-sign : List ℤ = c.args.area.now in
    let start-sign : c.is_number.result ≡ counts at-start-sign start_place = word_read (λ z. same_word z (pos (nat_abs z))) (get_or at-start-sign start_place (pos 0)) (omega arith) c.is_number.ensures in
    sym
    (tells_no (head_test_parts c.args.area.now)
    (λ s. failing start-sign c.if-not-is_number.true s.start))

pub returns-then-not-is_process : goal.returns-then-not-is_process
returns-then-not-is_process c =
    let at_the_start : List ℤ = c.args.area.now in
    let start : c.unsigned_abs-start.result ≡ number_at at_the_start start_place = word_read nat_abs (get_or at_the_start start_place (pos 0)) (omega arith) c.unsigned_abs-start.ensures.value in
    let start_is_in : c.is_process.result ≡ is_process (number_at at_the_start (field_place 0)) (number_at at_the_start start_place) = rw (← c.requires.n_is, ← start) c.is_process.ensures in
    sym
    (tells_no (head_test_parts c.args.area.now)
    (λ s. failing start_is_in c.if-not-is_process.true s.start_is_in))

pub returns-then-not-is_number-2 : goal.returns-then-not-is_number-2
returns-then-not-is_number-2 c =
    let at-count-sign : List ℤ = c.args.area.now in
    let count-sign : c.is_number-2.result ≡ counts at-count-sign count_place = word_read (λ z. same_word z (pos (nat_abs z))) (get_or at-count-sign count_place (pos 0)) (omega arith) c.is_number-2.ensures in
    sym
    (tells_no (head_test_parts c.args.area.now)
    (λ s. failing count-sign c.if-not-is_number-2.true s.count))

pub returns-then-unsigned_abs-gt-MOST_DELIVERIES : goal.returns-then-unsigned_abs-gt-MOST_DELIVERIES
returns-then-unsigned_abs-gt-MOST_DELIVERIES c =
    let at_count : List ℤ = c.args.area.now in
    let count : c.unsigned_abs.result ≡ number_at at_count count_place = word_read nat_abs (get_or at_count count_place (pos 0)) (omega arith) c.unsigned_abs.ensures.value in
    sym
    (tells_no
    (head_test_parts
    c.args.area.now)
    (λ s. omega (arith, count, c.if-unsigned_abs-gt-MOST_DELIVERIES.true, s.few)))

pub returns-then-not-is_edition_word : goal.returns-then-not-is_edition_word
returns-then-not-is_edition_word c =
    sym (tells_no (head_test_parts c.args.area.now) (λ s. failing c.is_edition_word.ensures c.if-not-is_edition_word.true s.edition))

pub returns : goal.returns
returns c =
    let at-check : List ℤ = c.args.area.now in
    let at-start-sign : List ℤ = c.args.area.now in
    let at_the_start : List ℤ = c.args.area.now in
    let at-count-sign : List ℤ = c.args.area.now in
    let at_count : List ℤ = c.args.area.now in
    let check : c.is_same.result ≡ same_word (get_or at-check check_place (pos 0)) knot_check = word_read (λ z. same_word z knot_check) (get_or at-check check_place (pos 0)) (omega arith) c.is_same.ensures in
    let start-sign : c.is_number.result ≡ counts at-start-sign start_place = word_read (λ z. same_word z (pos (nat_abs z))) (get_or at-start-sign start_place (pos 0)) (omega arith) c.is_number.ensures in
    let start : c.unsigned_abs-start.result ≡ number_at at_the_start start_place = word_read nat_abs (get_or at_the_start start_place (pos 0)) (omega arith) c.unsigned_abs-start.ensures.value in
    let start_is_in : c.is_process.result ≡ is_process (number_at at_the_start (field_place 0)) (number_at at_the_start start_place) = rw (← c.requires.n_is, ← start) c.is_process.ensures in
    let count-sign : c.is_number-2.result ≡ counts at-count-sign count_place = word_read (λ z. same_word z (pos (nat_abs z))) (get_or at-count-sign count_place (pos 0)) (omega arith) c.is_number-2.ensures in
    let count : c.unsigned_abs.result ≡ number_at at_count count_place = word_read nat_abs (get_or at_count count_place (pos 0)) (omega arith) c.unsigned_abs.ensures.value in
    tells_last (head_test_parts c.args.area.now) (λ f. record {
      check = sym check ∙ c.if-not-is_same.false;
      start = sym start-sign ∙ c.if-not-is_number.false;
      start_is_in = sym start_is_in ∙ c.if-not-is_process.false;
      count = sym count-sign ∙ c.if-not-is_number-2.false;
      few = omega (arith, count, c.if-unsigned_abs-gt-MOST_DELIVERIES.false);
      edition = sym c.is_edition_word.ensures ∙ c.if-not-is_edition_word.false;
      free = sym c.is_free.ensures ∙ f;
    }) (λ s. c.is_free.ensures ∙ s.free)
