use Rattle.std.proofs.Common.{length}
use Rattle.tables.specs.declared.Chain.TheVariants.{In}
use Rattle.areas.specs.Area.{fields_in}
use Rattle.lenses.proofs.ChainWalks.{to_go}
use Rattle.rows.proofs.Searches.{Sought}
use Rattle.rows.proofs.arc_from.Given as goal

abbrev pub invariant-loop-k : goal.invariant-loop-k
invariant-loop-k l = Sought (fields_in l.area.words.now) l.a l.b l.k

abbrev pub decreases-loop-k : goal.decreases-loop-k
decreases-loop-k l = length (to_go In (fields_in l.area.words.now) l.k)
