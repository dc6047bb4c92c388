-- `put_table` puts the arcs, the process records, N and M.
use Rattle.std.proofs.Common.{refl}
use Rattle.table_writer.specs.Putting.{slots}
use Rattle.table_writer.proofs.PuttingLaws.{fronts_none, table_over_of}
use Rattle.table_writer.proofs.put_table.Goals as goal

pub put_arcs-requires-clause-fronts : goal.put_arcs-requires-clause-fronts
put_arcs-requires-clause-fronts c = fronts_none _ slots _ refl refl

pub returns : goal.returns
returns c =
    let fit = c.requires in
    table_over_of _ _ _ _ _ _ _ _ fit.sizes.1 fit.room c.put_arcs.ensures.fronts_after c.put_arcs.ensures.out_after c.put_firsts.ensures
    c.put.ensures c.put-2.ensures
