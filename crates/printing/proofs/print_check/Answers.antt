-- The whole text is formed in what is lent, and written.
use Rattle.std.proofs.Common.{◌≡◌, refl, ℕ, ◌≤◌, List, length, take, drop, sym, ap, ◌∙◌, arith, subst, Ok, OnOk}
use Rattle.std.specs.Io.KnownBytes.{Appends}
use Rattle.std.proofs.Math.Seq.{take_at}
use Rattle.std.proofs.lemmas.List.{length-take-le}
use borrow.Author.Tests.{le-ltb}
use Rattle.program_text.specs.Program.{program_text}
use Rattle.program_text.specs.Longest.{longest_output}
use Rattle.printing.specs.Form.{form_of, formed_in}
use Rattle.printing.specs.FormLaws.{form_enough, form_within}
use Rattle.printing.proofs.print_check.Goals as goal

-- the text stands at the front of what was lent
form_text : (bs out : List ℕ) {k : ℕ} → longest_output ≤ length out → form_of bs out ≡ Ok k → take k (formed_in bs out) ≡ program_text bs
unfolding formed_in
form_text bs out {k} h e =
    let is : Ok (length (program_text bs)) ≡ Ok k = sym (form_enough bs out h) ∙ e in
    let z : k ≡ length (program_text bs) = cc in
    rw (le-ltb (length out) longest_output h) (take_at (program_text bs) (drop (length (program_text bs)) out) k (sym z))

pub unwrap-length-requires : goal.unwrap-length-requires
unwrap-length-requires g c =
    let is = c.form.ensures.answer ∙ form_enough c.args.input.now _ (omega arith) in
    rw is refl

pub slice_bounds-output-end : goal.slice_bounds-output-end
slice_bounds-output-end g c =
    omega (arith, form_within c.args.input.now _ (λ i. (c.type_inv.input i).fits) (sym c.form.ensures.answer ∙ c.unwrap-length.ensures))

pub slice_bounds-print-end : goal.slice_bounds-print-end
slice_bounds-print-end g c =
    let within = form_within c.args.input.now _ (λ i. (c.type_inv.input i).fits) (sym c.form.ensures.answer ∙ c.unwrap-length.ensures) in
    omega (arith, length-take-le c.unwrap-length.result c.form.new.out (omega (arith, within)))

pub returns : goal.returns
returns g c =
    let text = form_text c.args.input.now _ (omega arith) (sym c.form.ensures.answer ∙ c.unwrap-length.ensures) in
    subst (λ (l : List ℕ). OnOk c.print.result (Appends (g.W.Write.contents c.args.to.now) (g.W.Write.contents c.print.new.to) l))
    (ap (take c.unwrap-length.result) c.form.ensures.out ∙ text) c.print.ensures
