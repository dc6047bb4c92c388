-- `delivery_lines::put_own` meets its contract: the line is that of the delivery's answer, what the delivery leaves, and whether it was made. The two
-- ends of a chosen link are processes, and so small.
use Rattle.std.proofs.Common.{◌≤◌, sym, ap, arith}
use Rattle.tables.specs.Table.{most_processes}
use Rattle.checks.specs.Calls.{delivery_made}
use Rattle.machine.specs.Calls.{lowest}
use Rattle.choosing.specs.OrderLaws.{lowest_names}
use Rattle.choosing.proofs.OnLink.{left_small, left-refusal}
use Rattle.delivery_lines.proofs.put_own.Goals as goal

pub overflow_cast-from : goal.overflow_cast-from
overflow_cast-from c =
    let small : (c.in-Ok.field-0.from ≤ most_processes) × (c.in-Ok.field-0.to ≤ most_processes) = left_small lowest lowest_names c.requires.running (c.deliver_next.ensures.told, (c.deliver_next.ensures.area_after, (c.deliver_next.ensures.remembers_after, c.deliver_next.ensures.running_after))) c.in-Ok.is in
    omega (arith, small.0)

pub overflow_cast-to : goal.overflow_cast-to
overflow_cast-to c =
    let small : (c.in-Ok.field-0.from ≤ most_processes) × (c.in-Ok.field-0.to ≤ most_processes) = left_small lowest lowest_names c.requires.running (c.deliver_next.ensures.told, (c.deliver_next.ensures.area_after, (c.deliver_next.ensures.remembers_after, c.deliver_next.ensures.running_after))) c.in-Ok.is in
    omega (arith, small.1)

pub returns-in-Err-clause-made : goal.returns-in-Err-clause-made
returns-in-Err-clause-made c =
    sym
    (ap delivery_made
    (left-refusal lowest lowest_names c.requires.running
    (c.deliver_next.ensures.told, (c.deliver_next.ensures.area_after, (c.deliver_next.ensures.remembers_after, c.deliver_next.ensures.running_after)))
    c.in-Err.is))
