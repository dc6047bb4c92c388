-- `word_tests::is_same` meets its contract: two words have the same bits exactly if they are the same.
use Rattle.areas.proofs.Signs.{word_same}
use Rattle.word_tests.proofs.is_same.Goals as goal

pub returns : goal.returns
returns c = word_same c.args.word c.args.other c.ranges.word.sfits c.ranges.other.sfits
