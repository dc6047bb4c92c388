-- `lenses::heading::put_count` meets its contract: a count in its range is itself as a word, and word 2 stands inside the area.
use Rattle.std.proofs.Common.{arith}
use Rattle.areas.proofs.Signs.{word_number}
use Rattle.lenses.proofs.Stores.{long, store_count}
use Rattle.lenses.proofs.heading.put_count.Goals as goal

pub bounds-area-2 : goal.bounds-area-2
bounds-area-2 c = omega (arith, long c.requires.ready)

pub returns : goal.returns
returns c = rw (word_number c.args.count (omega (arith, c.requires.within_most_deliveries))) (store_count c.requires.ready c.args.count)
