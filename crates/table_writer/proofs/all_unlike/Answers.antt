-- `all_unlike` is the test of its name over all pairs. The loop's invariant: the pairs passed are unlike, and the square says which were met.
use Rattle.std.proofs.Common.{◌+◌, not, sym, ap, ◌∙◌, arith}
use Rattle.base.specs.PrefixLaws.{all_to_none, all_to_next, all_to_stop}
use Rattle.tables.specs.PairLaws.{seen_none, seen_next}
use Rattle.table_writer.proofs.ByPairs.{from_here, to_here, small_from, small_to}
use Rattle.table_writer.proofs.Unlike.{unlike_cell}
use Rattle.table_writer.proofs.all_unlike.Goals as goal

pub loop-from-init : goal.loop-from-init
loop-from-init c = (all_to_none _, seen_none _ _)

pub returns-then-seen-cell : goal.returns-then-seen-cell
returns-then-seen-cell c =
    let at = c.loop-from in
    let pairs = c.pairs_of-from-items.ensures in
    let from = c.from.ensures in
    let to = c.from-in-loop-from.ensures in
    sym (all_to_stop _ (at.from-index + 1) _ (omega arith) (omega arith)
    (unlike_cell _ at.from-index _ _ _ at.seen (small_from pairs (omega arith) from c.requires) (small_to pairs (omega arith) from to c.requires)
    (from_here pairs (omega arith) from) (to_here pairs (omega arith) from to) (omega arith) at.invariant.1 ∙ ap not c.if-seen-cell.true))

pub loop-from-preserved : goal.loop-from-preserved
loop-from-preserved c =
    let at = c.loop-from in
    let pairs = c.pairs_of-from-items.ensures in
    let from = c.from.ensures in
    let to = c.from-in-loop-from.ensures in (
      all_to_next _ _ at.invariant.0
          (unlike_cell _ at.from-index _ _ _ at.seen (small_from pairs (omega arith) from c.requires) (small_to pairs (omega arith) from to c.requires)
          (from_here pairs (omega arith) from) (to_here pairs (omega arith) from to) (omega arith) at.invariant.1 ∙ ap not c.if-seen-cell.false),
      seen_next _ _ at.from-index _ _ _ at.seen (small_from pairs (omega arith) from c.requires) (small_to pairs (omega arith) from to c.requires)
          (from_here pairs (omega arith) from) (to_here pairs (omega arith) from to) (omega arith) at.invariant.1,
    )
