use Rattle.std.proofs.Common.{◌-◌, ◌≡◌, get_or}
use Rattle.table_writer.specs.Putting.{put_fields}
use Rattle.table_writer.proofs.put_firsts.Given as goal

abbrev pub invariant-loop-j : goal.invariant-loop-j
invariant-loop-j l = l.out ≡ put_fields (λ i. get_or l.firsts i 0) 2 (l.j - 2) l.initial.out
