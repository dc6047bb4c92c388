-- `check` gives the pairs to `all_unlike` once both ends of each are processes.
use Rattle.std.proofs.Common.{sym}
use Rattle.tables.specs.Table.{most_processes}
use Rattle.tables.specs.TableLaws.{sizes_fit_P}
use Rattle.table_writer.specs.NumberLaws.{ends_fit_below}
use Rattle.table_writer.proofs.check.Goals as goal

pub all_unlike-requires : goal.all_unlike-requires
all_unlike-requires c = ends_fit_below _ _ most_processes ((sizes_fit_P _ _).0 (sym c.if-not-fit.ensures)).1 (sym c.if-not-ends_fit.ensures)
