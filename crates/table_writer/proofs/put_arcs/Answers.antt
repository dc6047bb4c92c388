-- `put_arcs` puts the arcs in list order. The loop's invariant: the first k arcs are put, and `firsts` holds the fronts that they leave.
use Rattle.std.proofs.Common.{refl, arith}
use Rattle.tables.specs.Table.{most_processes}
use Rattle.table_writer.specs.Putting.{EntriesUpTo, put_fields}
use Rattle.table_writer.proofs.ByPairs.{from_here, to_here, small_from, small_to}
use Rattle.table_writer.proofs.PuttingLaws.{arc_put, fronts_next}
use Rattle.table_writer.proofs.put_arcs.Goals as goal

pub loop-k-init : goal.loop-k-init
unfolding put_fields
loop-k-init c = (refl, c.requires.fronts)

pub loop-k-preserved : goal.loop-k-preserved
loop-k-preserved c =
    let a = c.args in
    let at = c.loop-k in
    let fit = c.requires.fit in
    let pairs = c.pairs_of-from-items.ensures in
    let low : EntriesUpTo a.list.now most_processes = λ e k l u. omega (arith, fit.sizes.1, (fit.ends e k l u).1) in
    let from = c.from-at_out.ensures in
    let to = c.from.ensures in
    let from_small = small_from pairs (omega arith) from low in
    let to_small = small_to pairs (omega arith) from to low in
    let from_is = from_here pairs (omega arith) from in
    let to_is = to_here pairs (omega arith) from to in (
      rw (c.put_arc.ensures, ← from, ← to) (arc_put a.n a.list.now at.k _ _ at.firsts a.out.now at.out from_small to_small from_is to_is at.invariant.1 at.invariant.0),
      fronts_next a.list.now at.k _ _ at.firsts from_small to_small from_is to_is at.invariant.1,
    )
