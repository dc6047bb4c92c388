-- The fields of a tested area can be counted in a word.
use Rattle.std.proofs.Common.{arith}
use Rattle.lenses.specs.ReadyLaws.{ready_sizes}
use Rattle.lenses.proofs.tested.Tested.first.Goals as goal

pub first_in-requires-clause-countable : goal.first_in-requires-clause-countable
first_in-requires-clause-countable c = omega (arith, ready_sizes c.args.self.ready)
