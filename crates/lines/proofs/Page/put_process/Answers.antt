-- `lines::Page::put_process` meets its contract: the word, the process's fields and the end of the line.
use Rattle.lines.specs.Text.{process_line}
use Rattle.lines.specs.AddingLaws.{◌adds-then◌}
use Rattle.lines.proofs.Page.put_process.Goals as goal

pub returns : goal.returns
unfolding process_line
returns c =
    c.put_word.ensures adds-then c.put_field.ensures adds-then c.put_flags.ensures adds-then c.put_sums.ensures adds-then c.put_word-2.ensures
