use Rattle.std.proofs.Common.{length}
use Rattle.areas.specs.Area.{fields_in}
use Rattle.lenses.proofs.ChainWalks.{to_go, Counted}
use Rattle.lenses.proofs.tested.Tested.degree.Given as goal

abbrev pub invariant-loop-k : goal.invariant-loop-k
invariant-loop-k l = Counted l.c (fields_in l.self.words.now) l.b l.k l.d

abbrev pub decreases-loop-k : goal.decreases-loop-k
decreases-loop-k l = length (to_go l.c (fields_in l.self.words.now) l.k)
