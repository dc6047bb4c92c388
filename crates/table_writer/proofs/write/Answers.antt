-- `write` hands on the refusal of the checks, or writes the table.
use Rattle.std.proofs.Common.{Ok, ap, ◌∙◌}
use Rattle.std.proofs.lemmas.Result.{err_from_is_err_and}
use Rattle.table_writer.specs.NumberLaws.{writing_written, written_table}
use Rattle.table_writer.proofs.Answers.{refused, none, fit}
use Rattle.table_writer.proofs.write.Goals as goal

pub returns-in_err-check : goal.returns-in_err-check
returns-in_err-check c =
    let p = err_from_is_err_and c.from_residual.result c.from_residual.ensures.1 in
    let told = refused _ _ _ _ c.check.ensures _ c.in_err-check.was in
    record { value = rw (p.1, p.2) told.0; out_after = told.1 }

pub put_table-requires : goal.put_table-requires
put_table-requires c = fit _ _ _ _ c.check.ensures _ c.in_ok-check.was

pub table_length-requires : goal.table_length-requires
table_length-requires c = (fit _ _ _ _ c.check.ensures _ c.in_ok-check.was).sizes

pub returns : goal.returns
returns c =
    let met = none _ _ _ _ c.check.ensures _ c.in_ok-check.was in
    record { value = ap Ok c.table_length.ensures ∙ writing_written _ _ _ met; out_after = c.put_table.ensures ∙ written_table _ _ _ met }
