-- `choosing::deliver_on` meets its contract: what is handed on of the square is the row of the receiver.
use Rattle.std.proofs.Common.{arith}
use Rattle.lenses.specs.ReadyLaws.{ready_sizes}
use Rattle.choosing.proofs.deliver_on.Goals as goal

pub overflow_mul-first : goal.overflow_mul-first
overflow_mul-first c = omega (arith, c.requires.numbers, ready_sizes c.requires.running.ready)

pub overflow_add-row : goal.overflow_add-row
overflow_add-row c = omega (arith, c.requires.numbers, ready_sizes c.requires.running.ready)

pub offset_bounds-cells-first : goal.offset_bounds-cells-first
offset_bounds-cells-first c = omega (arith, c.requires.numbers, ready_sizes c.requires.running.ready)

pub slice_bounds-row-end : goal.slice_bounds-row-end
slice_bounds-row-end c = omega (arith, c.requires.numbers, ready_sizes c.requires.running.ready, c.requires.running.square.long)
