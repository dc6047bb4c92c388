-- `put_firsts` puts the fields from 2 on. The loop's invariant: those below j are put.
use Rattle.std.proofs.Common.{refl, ◌∙◌, get_or}
use Rattle.table_writer.specs.Putting.{put_fields}
use Rattle.table_writer.proofs.PuttingLaws.{put_fields_next}
use Rattle.table_writer.proofs.put_firsts.Goals as goal

pub loop-j-init : goal.loop-j-init
unfolding put_fields
loop-j-init c = refl

pub loop-j-preserved : goal.loop-j-preserved
loop-j-preserved c =
    c.put.ensures ∙ put_fields_next (λ i. get_or c.args.firsts.now i 0) 2 c.args.out.now c.loop-j.j c.loop-j.out c.loop-j.auto.j c.loop-j.invariant
