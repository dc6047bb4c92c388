-- Too few bytes are refused; in enough of them the text has room.
use Rattle.std.proofs.Common.{arith, rules, sym, ◌∙◌}
use Rattle.program_text.specs.LongestLaws.{program_short}
use Rattle.printing.specs.FormLaws.{form_short, form_long}
use Rattle.printing.proofs.form.Goals as goal

pub returns-then-out-lt-LONGEST_OUTPUT : goal.returns-then-out-lt-LONGEST_OUTPUT
returns-then-out-lt-LONGEST_OUTPUT c =
    let short = form_short c.args.input.now _ (omega (arith, c.if-out-lt-LONGEST_OUTPUT.true)) in
    record { answer = short.0; out = short.1 }

pub put_check-requires : goal.put_check-requires
put_check-requires c = omega (arith, program_short c.args.input.now (λ i. (c.type_inv.input i).fits), c.if-out-lt-LONGEST_OUTPUT.false)

pub returns-clause-answer : goal.returns-clause-answer
returns-clause-answer c = (form_long _ _ c.if-out-lt-LONGEST_OUTPUT.false c.put_check.ensures.put).0

pub returns-clause-out : goal.returns-clause-out
returns-clause-out c =
    let formed = (form_long _ _ c.if-out-lt-LONGEST_OUTPUT.false c.put_check.ensures.put).1 in
    search (rules, formed, sym, ◌∙◌)
