use Rattle.std.proofs.Common.{length}
use Rattle.areas.specs.Area.{fields_in}
use Rattle.lenses.proofs.ChainWalks.{to_go}
use Rattle.rows.proofs.Fills.{Going}
use Rattle.rows.proofs.fill_chain.Given as goal

abbrev pub invariant-loop-k : goal.invariant-loop-k
invariant-loop-k l = Going l.c (fields_in l.area.words.now) l.b l.initial.row l.k l.row

abbrev pub decreases-loop-k : goal.decreases-loop-k
decreases-loop-k l = length (to_go l.c (fields_in l.area.words.now) l.k)
