-- `pairs_of` hands on std's chunks of two.
use Rattle.table_writer.proofs.ByPairs.{paired}
use Rattle.table_writer.proofs.pairs_of.Goals as goal

pub returns : goal.returns
returns c = paired _ c.as_chunks.ensures.front c.as_chunks.ensures.front_len
