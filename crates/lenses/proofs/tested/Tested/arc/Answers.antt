-- The fields of a tested area can be counted in a word.
use Rattle.std.proofs.Common.{arith}
use Rattle.lenses.specs.ReadyLaws.{ready_sizes}
use Rattle.lenses.proofs.tested.Tested.arc.Goals as goal

pub arc_in-requires-clause-countable : goal.arc_in-requires-clause-countable
arc_in-requires-clause-countable c = omega (arith, ready_sizes c.args.self.ready)
