-- `table_reader::read` hands on the refusal of checks 4 to 7.
use Rattle.std.proofs.Common.{arith}
use Rattle.std.proofs.lemmas.Result.{err_from_is_err_and}
use Rattle.table_reader.proofs.Answers.{reading_of_4}
use Rattle.table_reader.proofs.read.Goals as goal

pub returns-in_err-check_fields : goal.returns-in_err-check_fields
returns-in_err-check_fields c =
    let p = err_from_is_err_and c.from_residual.result c.from_residual.ensures.1 in
    rw (p.1, p.2) (reading_of_4 _ c.if-s-lt4.false _ _ c.field.ensures c.field-2.ensures c.if-not-fit.ensures (omega arith)
    _ c.check_fields.ensures _ c.in_err-check_fields.was)
