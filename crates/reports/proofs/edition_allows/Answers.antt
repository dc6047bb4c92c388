-- `reports::edition_allows` meets its contract: the start waits for somebody exactly if some process is reachable from it by one arc or more.
use Rattle.std.proofs.Common.{List, sym, ap, ◌∙◌, arith, ne_eqb, ℤ}
use Rattle.tables.specs.declared.Sizes.{Sizes}
use Rattle.tables.specs.Table.{IsProcess}
use Rattle.tables.specs.Waits.{out_degree}
use Rattle.areas.specs.Area.{run_in}
use Rattle.lenses.specs.Ready.{Ready}
use Rattle.lenses.specs.ReadyLaws.{right_storable, ready_n}
use Rattle.lenses.proofs.Lookups.{start_right}
use Rattle.reports.specs.ReportLaws.{allowed_first, allowed_second}
use Rattle.reports.proofs.edition_allows.Goals as goal

-- the start is a process
process : {w : List ℤ} {s : Sizes} → Ready w s → IsProcess (run_in w).waits.n (run_in w).start
process y = ((start_right y).0, omega (arith, (start_right y).1, ready_n y))

pub returns-then-edition-ne2 : goal.returns-then-edition-ne2
returns-then-edition-ne2 c =
    rw (ne_eqb c.edition.result 2 c.if-edition-ne2.true)
    (allowed_first (run_in c.args.area.words.now) (λ e. c.if-edition-ne2.true (c.edition.ensures ∙ e)))

pub degree-requires : goal.degree-requires
degree-requires c = rw c.start.ensures (start_right c.args.area.ready)

pub returns-else-edition-ne2 : goal.returns-else-edition-ne2
returns-else-edition-ne2 c =
    let y = c.args.area.ready in
    let r = run_in c.args.area.words.now in
    allowed_second r (right_storable _ y.right).sound (process y) c.degree.result (sym c.edition.ensures ∙ c.if-edition-ne2.false)
    (c.degree.ensures ∙ ap (out_degree r.waits) c.start.ensures)
