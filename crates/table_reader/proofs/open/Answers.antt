-- `table_reader::open` hands on the refusal of reading the table.
use Rattle.std.proofs.lemmas.Result.{err_from_is_err_and}
use Rattle.table_reader.proofs.Opening.{opened_of_read}
use Rattle.table_reader.proofs.open.Goals as goal

pub returns-in_err-sizes : goal.returns-in_err-sizes
returns-in_err-sizes c =
    let p = err_from_is_err_and c.from_residual.result c.from_residual.ensures.1 in
    rw (p.1, p.2) (opened_of_read _ _ _ _ c.read.ensures _ c.in_err-sizes.was)
