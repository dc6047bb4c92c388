-- `lines::Page::put_outside` meets its contract: the word, the number and the end of the line.
use Rattle.steps.proofs.Counts.{signed_back}
use Rattle.lines.specs.Text.{outside_line}
use Rattle.lines.specs.AddingLaws.{◌adds-then◌}
use Rattle.lines.proofs.Page.put_outside.Goals as goal

pub returns : goal.returns
unfolding outside_line
returns c =
    c.put_word.ensures adds-then (rw (signed_back c.args.outside c.ranges.outside.sfits) at c.put_count_field.ensures) adds-then c.put_word-2.ensures
