use Rattle.std.proofs.Common.{length}
use Rattle.areas.specs.Area.{fields_in}
use Rattle.lenses.proofs.ChainWalks.{to_go}
use Rattle.link_lenses.proofs.Spreads.{Sending}
use Rattle.link_lenses.proofs.sending.broadcast.Given as goal

abbrev pub invariant-loop-k : goal.invariant-loop-k
invariant-loop-k l = Sending l.initial.area l.area l.c l.b l.k

abbrev pub decreases-loop-k : goal.decreases-loop-k
decreases-loop-k l = length (to_go l.c (fields_in l.initial.area) l.k)
