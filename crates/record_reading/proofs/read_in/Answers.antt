-- `record_reading::read_in` meets its contract: each return is a law of CallLaws.
use Rattle.std.proofs.Common.{ap, ◌∙◌, sym, Ok}
use Rattle.tables.specs.TableLaws.{is_process_P}
use Rattle.area_calls.specs.CallLaws.{read_25, read_found}
use Rattle.area_calls.specs.TestedLaws.{ready_process}
use Rattle.record_reading.proofs.read_in.Goals as goal

pub returns-then-not-is_process : goal.returns-then-not-is_process
returns-then-not-is_process c =
    let y = c.args.area.ready in
    read_25 _ y.right c.args.p (sym (ready_process y c.args.p c.is_process.ensures) ∙ c.if-not-is_process.true)

pub process-requires : goal.process-requires
process-requires c = (is_process_P _ c.args.p).0 (sym c.is_process.ensures ∙ c.if-not-is_process.false)

pub returns : goal.returns
returns c =
    let y = c.args.area.ready in
    ap Ok c.process.ensures ∙ read_found _ y.right c.args.p (sym (ready_process y c.args.p c.is_process.ensures) ∙ c.if-not-is_process.false)
