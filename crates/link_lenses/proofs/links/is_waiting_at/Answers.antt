-- `link_lenses::links::is_waiting_at` meets its contract: the cell of neighbours says where their link begins, and the others have none.
use borrow.Author.Tests.{eq-eqb}
use Rattle.std.proofs.Common.{ℕ, ◌≤◌, List, ℤ, ◌≡◌, sym, ap, ◌∙◌, arith}
use Rattle.machine.specs.Calls.{waiting}
use Rattle.areas.specs.Area.{fields_in}
use Rattle.areas.specs.Squares.{cell_of, cell, Square}
use Rattle.areas.specs.SquareLaws.{cell_linked, cell_apart}
use Rattle.areas.specs.RunInLaws.{run_in_contained}
use Rattle.tables.specs.declared.Sizes.{Sizes}
use Rattle.lenses.specs.Ready.{Ready}
use Rattle.lenses.specs.ReadyLaws.{ready_sizes}
use Rattle.link_lenses.proofs.links.is_waiting_at.Goals as goal

-- the cell that the square says is that of the pair
cell_is : {w : List ℤ} {z : Sizes} (y : Ready w z) {sq : List ℕ} → Square (fields_in w) sq → {a b : ℕ} → (a ≤ z.n) × (b ≤ z.n) → {r : ℕ} → r ≡ cell sq a b
    → r ≡ cell_of (fields_in w) a b
cell_is y g {a} {b} u e = let s = ready_sizes y in e ∙ g.cells a b (omega (arith, u)) (omega (arith, u))

pub cell_at-cell-requires : goal.cell_at-cell-requires
cell_at-cell-requires c = let z = ready_sizes c.args.area.ready in (omega (arith, c.requires.numbers), omega (arith, c.requires.numbers))

pub returns-else-cell-ne0 : goal.returns-else-cell-ne0
returns-else-cell-ne0 c =
    let w = c.args.area.words.now in
    let known = cell_is c.args.area.ready c.requires.square c.requires.numbers c.cell_at-cell.ensures.is in
    rw (eq-eqb c.cell_at-cell.result 0 c.if-cell-ne0.false)
    (sym (ap waiting ((run_in_contained w).links c.args.a c.args.b (cell_apart (fields_in w) c.args.a c.args.b known c.if-cell-ne0.false))))

pub is_waiting-requires : goal.is_waiting-requires
is_waiting-requires c =
    cell_linked (fields_in c.args.area.words.now) (cell_is c.args.area.ready c.requires.square c.requires.numbers c.cell_at-cell.ensures.is)
    c.if-cell-ne0.true c.place.ensures
