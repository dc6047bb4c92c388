-- `picks::picking::pick_in` meets its contract: who is no process has no link, and no more have two whose cell is 0.
use Rattle.std.proofs.Common.{ℕ, Bool, true, false, ◌≡◌, refl, sym, ap, ◌∙◌, arith}
use Rattle.tables.specs.Pairs.{square_side}
use Rattle.tables.specs.Table.{is_process, IsProcess}
use Rattle.tables.specs.TableLaws.{is_process_P}
use Rattle.tables.specs.Waits.{Waits, waits_of, neighbours}
use Rattle.tables.specs.WaitsLaws.{neighbours_swap}
use Rattle.areas.specs.Area.{fields_in, run_in}
use Rattle.areas.specs.RunInLaws.{run_in_contained}
use Rattle.areas.specs.SquareLaws.{cell_linked, cell_apart}
use Rattle.lenses.specs.ReadyLaws.{ready_sizes}
use Rattle.area_calls.specs.CallLaws.{pick_25}
use Rattle.area_calls.specs.TestedLaws.{fresh_empty, none_from, none_to}
use Rattle.picks.proofs.picking.pick_in.Goals as goal
use Rattle.picks.proofs.picking.pick_in.Goals.{then-not-is_process-via-then-not-is_process, then-not-is_process-via-else-not-is_process+then-not-is_process-2}

-- both are processes, by their tests
both : {n p q : ℕ} {t u : Bool} → t ≡ is_process n p → t ≡ true → u ≡ is_process n q → u ≡ true → IsProcess n p × IsProcess n q
both d e f g = ((is_process_P _ _).0 (sym d ∙ e), (is_process_P _ _).0 (sym f ∙ g))

pub returns-then-not-is_process : goal.returns-then-not-is_process
returns-then-not-is_process c =
    let apart : neighbours (run_in c.args.area.now).waits c.args.from c.args.to ≡ false =
    elim c.then-not-is_process.branch [
      | then-not-is_process-via-then-not-is_process w ↦
          none_from c.requires c.args.from c.args.to (sym c.is_process.ensures ∙ w.if-not-is_process.true)
      | then-not-is_process-via-else-not-is_process+then-not-is_process-2 w ↦
          none_to c.requires c.args.from c.args.to (sym w.is_process-else-not-is_process.ensures ∙ w.if-not-is_process-2.true)
    ] in
    let h = pick_25 _ c.requires.right c.args.from c.args.to c.args.place apart in
    record { answer = h.0; area_after = h.1 }

pub fill_row-requires-clause-is_process : goal.fill_row-requires-clause-is_process
fill_row-requires-clause-is_process c =
    (both c.is_process.ensures c.if-not-is_process.false c.is_process-else-not-is_process.ensures c.if-not-is_process-2.false).1

pub fill_row-requires-clause-zeros : goal.fill_row-requires-clause-zeros
fill_row-requires-clause-zeros c = fresh_empty square_side _ refl

pub cell_of-requires : goal.cell_of-requires
cell_of-requires c =
    let b = both c.is_process.ensures c.if-not-is_process.false c.is_process-else-not-is_process.ensures c.if-not-is_process-2.false in
    omega (arith, b.0.1, (ready_sizes c.requires).0, c.fill_row.ensures.long)

pub returns-then-cell_of-eq0 : goal.returns-then-cell_of-eq0
returns-then-cell_of-eq0 c =
    let b = both c.is_process.ensures c.if-not-is_process.false c.is_process-else-not-is_process.ensures c.if-not-is_process-2.false in
    let cell_is = c.cell_of.ensures.is ∙ c.fill_row.ensures.cells c.args.from (omega (arith, b.0.1, (ready_sizes c.requires).0)) in
    let a = c.args in
    let w = a.area.now in
    let h = pick_25 _ c.requires.right a.from a.to a.place
    (ap (λ (v : Waits). neighbours v a.from a.to) (run_in_contained w).waits ∙ neighbours_swap (waits_of (fields_in w)) a.from a.to
    ∙ cell_apart (fields_in w) a.to a.from cell_is c.if-cell_of-eq0.true) in
    record { answer = h.0; area_after = h.1 }

pub pick_on-requires : goal.pick_on-requires
pick_on-requires c =
    let b = both c.is_process.ensures c.if-not-is_process.false c.is_process-else-not-is_process.ensures c.if-not-is_process-2.false in
    let cell_is = c.cell_of.ensures.is ∙ c.fill_row.ensures.cells c.args.from (omega (arith, b.0.1, (ready_sizes c.requires).0)) in
    let w = c.args.area.now in
    record {
      ready = c.requires;
      row = c.fill_row.ensures;
      ends = b;
      neighbours =
          neighbours_swap (waits_of (fields_in w)) c.args.from c.args.to ∙ (cell_linked (fields_in w) cell_is c.if-cell_of-eq0.false refl).joined;
    }
