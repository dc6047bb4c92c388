-- `lines::Page::put_word` meets its contract: the part of the bytes at the page's end is written over with the word.
use Rattle.std.proofs.Common.{refl, arith}
use Rattle.lines.proofs.Words.{put_mid_is}
use Rattle.lines.proofs.Page.put_word.Goals as goal

pub returns : goal.returns
returns c = record { same = refl; put = put_mid_is _ _ _ c.requires _ (omega arith) _ c.copy_from_slice.ensures.after }
