-- `runs::running::run_in` meets its contract.
use Rattle.std.proofs.Common.{refl}
use Rattle.tables.specs.Pairs.{square_size}
use Rattle.area_calls.specs.TestedLaws.{fresh_empty}
use Rattle.runs.proofs.running.run_in.Goals as goal

pub fill_square-requires-clause-zeros : goal.fill_square-requires-clause-zeros
fill_square-requires-clause-zeros c = fresh_empty square_size _ refl
