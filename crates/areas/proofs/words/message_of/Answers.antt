-- `areas::words::message_of` meets its contract: the word's number picks the probe, and any other word holds both counts as numbers.
use Rattle.std.proofs.Common.{◌≡◌, sym, ◌∙◌, nat_abs, arith}
use Rattle.steps.proofs.Counts.{signed_back}
use Rattle.areas.specs.LinkLaws.{message_of_suc, message_of_pre, message_of_ack}
use Rattle.areas.proofs.Signs.{word_read}
use Rattle.areas.proofs.words.message_of.Goals as goal

pub returns-in-1 : goal.returns-in-1
returns-in-1 c =
    let numbered : c.unsigned-code.result ≡ nat_abs c.args.word = word_read nat_abs c.args.word c.ranges.word.sfits c.unsigned-code.ensures in
    sym (message_of_suc c.args.word (sym numbered ∙ c.in-1.is))

pub returns-in-2 : goal.returns-in-2
returns-in-2 c =
    let numbered : c.unsigned-code.result ≡ nat_abs c.args.word = word_read nat_abs c.args.word c.ranges.word.sfits c.unsigned-code.ensures in
    sym (message_of_pre c.args.word (sym numbered ∙ c.in-2.is))

pub returns-in_default : goal.returns-in_default
returns-in_default c =
    let numbered : c.unsigned-code.result ≡ nat_abs c.args.word = word_read nat_abs c.args.word c.ranges.word.sfits c.unsigned-code.ensures in
    let first = c.lowered in
    rw (
      signed_back first.result first.type_inv,
      first.ensures,
      signed_back c.lowered-in_default.result c.lowered-in_default.type_inv,
      c.lowered-in_default.ensures,
      numbered,
    )
    (sym
    (message_of_ack c.args.word (λ e. absurd (omega (arith, numbered, e))) (λ e. absurd (omega (arith, numbered, e)))))
