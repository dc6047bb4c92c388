-- `reports::report_in` meets its contract: each return is a law.
use Rattle.std.proofs.Common.{ℕ, sym, ap, ◌∙◌, Ok}
use Rattle.areas.specs.Area.{run_in}
use Rattle.lenses.proofs.Lookups.{start_right}
use Rattle.area_calls.specs.CallLaws.{report_26}
use Rattle.reports.specs.ReportLaws.{report_told}
use Rattle.reports.proofs.report_in.Goals as goal

pub returns-then-not-is_over : goal.returns-then-not-is_over
returns-then-not-is_over c = report_26 _ c.args.area.ready.right (sym c.is_over.ensures ∙ c.if-not-is_over.true)

pub process-start-requires : goal.process-start-requires
process-start-requires c = rw c.start.ensures (start_right c.args.area.ready)

pub returns : goal.returns
returns c =
    ap Ok c.told.ensures ∙ report_told _ c.args.area.ready.right (sym c.is_over.ensures ∙ c.if-not-is_over.false) _ _ _ _ _
    (c.process-start.ensures ∙ ap (λ (p : ℕ). (run_in c.args.area.words.now).process p) c.start.ensures)
    c.edition_allows.ensures
    c.is_knot-knot.ensures
    c.count.ensures
    c.escape_of.ensures
