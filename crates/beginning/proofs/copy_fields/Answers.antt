-- `beginning::copy_fields` meets its contract. The loop's invariant: the fields before j are copied, and every other word is as before.
use Rattle.std.proofs.Common.{◌<◌, arith}
use Rattle.tables.specs.Table.{field_of}
use Rattle.tables.specs.TableLaws.{field_of_small}
use Rattle.areas.proofs.Signs.{word_number}
use Rattle.beginning.proofs.Laying.{copied_more}
use Rattle.beginning.proofs.copy_fields.Goals as goal

pub overflow_cast-area : goal.overflow_cast-area
overflow_cast-area c =
    let small : c.field.result < 65536 = let t = c.args.table.now in
    rw c.field.ensures (field_of_small t (λ i. (c.type_inv.table i).fits) c.loop-j.j) in
    omega (arith, small)

pub loop-j-preserved : goal.loop-j-preserved
loop-j-preserved c =
    let small : c.field.result < 65536 = let t = c.args.table.now in
    rw c.field.ensures (field_of_small t (λ i. (c.type_inv.table i).fits) c.loop-j.j) in
    let a = c.args in
    let loop = c.loop-j in (
      omega arith,
      rw (word_number c.field.result (omega (arith, small)), c.field.ensures)
          (copied_more (field_of a.table.now) a.area.now loop.area loop.j (omega arith) loop.invariant.1),
    )
