-- `put_arc` puts four fields in a row.
use Rattle.table_writer.specs.Putting.{put_arc}
use Rattle.table_writer.proofs.put_arc.Goals as goal

pub returns : goal.returns
unfolding put_arc
returns c = rw (c.put-4.ensures, c.put-3.ensures, c.put-2.ensures, c.put.ensures)
