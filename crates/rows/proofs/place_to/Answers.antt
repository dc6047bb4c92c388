-- `rows::place_to` meets its contract, by who of the two waits for whom.
use Rattle.std.proofs.Common.{ℕ, ◌≤◌, List, ℤ, arith, sym, ◌∙◌}
use Rattle.tables.specs.Table.{most_processes}
use Rattle.tables.specs.declared.Sizes.{Sizes}
use Rattle.lenses.specs.Ready.{Ready}
use Rattle.lenses.specs.ReadyLaws.{ready_sizes}
use Rattle.rows.proofs.Cells.{place_is}
use Rattle.rows.proofs.Searches.{place_second, place_first, arc_some, place_both}
use Rattle.rows.proofs.place_to.Goals as goal

-- a process of a tested area stands in a row
process_low : {w : List ℤ} {z : Sizes} (y : Ready w z) {a : ℕ} → (1 ≤ a) × (a ≤ z.n) → a ≤ most_processes
process_low y h = omega (arith, ready_sizes y, h)

pub cell_of-cell-requires : goal.cell_of-cell-requires
cell_of-cell-requires c =
    let low = process_low c.args.area.ready c.requires.a_is_process in
    omega (arith, low, c.requires.row.long)

pub returns-then-not-joins : goal.returns-then-not-joins
returns-then-not-joins c =
    let low = process_low c.args.area.ready c.requires.a_is_process in
    place_second c.requires.are_neighbours c.requires.row low c.cell_of-cell.ensures.is c.place-i.ensures
    (sym c.joins.ensures ∙ c.if-not-joins.true)

pub overflow_sub-result : goal.overflow_sub-result
overflow_sub-result c =
    let low = process_low c.args.area.ready c.requires.a_is_process in
    let waited = sym c.joins.ensures ∙ c.if-not-joins.false in
    (place_first c.requires.are_neighbours c.requires.row low c.cell_of-cell.ensures.is c.place-i.ensures waited (sym c.joins-2.ensures ∙ c.if-not-joins-2.true)).0

pub returns-then-not-joins-2 : goal.returns-then-not-joins-2
returns-then-not-joins-2 c =
    let low = process_low c.args.area.ready c.requires.a_is_process in
    let waited = sym c.joins.ensures ∙ c.if-not-joins.false in
    (place_first c.requires.are_neighbours c.requires.row low c.cell_of-cell.ensures.is c.place-i.ensures waited (sym c.joins-2.ensures ∙ c.if-not-joins-2.true)).1

pub link_start-requires : goal.link_start-requires
link_start-requires c =
    let low = process_low c.args.area.ready c.requires.a_is_process in
    let waited = sym c.joins.ensures ∙ c.if-not-joins.false in
    let k = arc_some c.requires.are_neighbours c.requires.row low c.cell_of-cell.ensures.is waited c.arc_from-k.ensures in
    let s = ready_sizes c.args.area.ready in record { sizes_right = s; arc = (k.0, omega (arith, c.args.area.ready.m_is)) }

pub returns : goal.returns
returns c =
    let low = process_low c.args.area.ready c.requires.a_is_process in
    let waited = sym c.joins.ensures ∙ c.if-not-joins.false in
    place_both c.requires.are_neighbours c.requires.row low c.cell_of-cell.ensures.is waited c.arc_from-k.ensures
    (place_is c.args.area.ready c.arc_from-k.result c.link_start.ensures)
