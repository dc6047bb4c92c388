-- `lenses::tested::Tested::edition` meets its contract: the word is that of the heading.
use Rattle.std.proofs.Common.{arith, pos, nat_abs, get_or}
use Rattle.areas.specs.Places.{edition_place}
use Rattle.areas.specs.Area.{run_in}
use Rattle.areas.proofs.Signs.{word_read, counts_read}
use Rattle.lenses.proofs.Stores.{long, edition_counts}
use Rattle.lenses.proofs.tested.Tested.edition.Goals as goal

pub bounds-self-3 : goal.bounds-self-3
bounds-self-3 c = omega (arith, long c.args.self.ready)

pub unsigned-requires : goal.unsigned-requires
unsigned-requires c = counts_read _ (omega arith) (edition_counts c.args.self.ready)

pub returns : goal.returns
unfolding run_in
returns c = word_read nat_abs (get_or c.args.self.words.now edition_place (pos 0)) (omega arith) c.unsigned.ensures
