use Rattle.std.proofs.Common.{◌+◌, ◌*◌, ◌≡◌}
use Rattle.table_writer.specs.Writing.{written_field}
use Rattle.table_writer.specs.Putting.{put_fields, Fronts}
use Rattle.table_writer.proofs.put_arcs.Given as goal

abbrev pub invariant-loop-k : goal.invariant-loop-k
invariant-loop-k l = (l.out ≡ put_fields (written_field l.n l.list) (2 + 2 * l.n) (4 * l.k) l.initial.out) × Fronts l.list l.k l.firsts
