-- `marks::Memory::held_in_all` meets its contract: the counts of all groups are the links with a message.
use Rattle.std.proofs.Common.{refl, ◌∙◌, arith}
use Rattle.tables.specs.Table.{most_processes}
use Rattle.marks.specs.GroupLaws.{held_to_most}
use Rattle.marks.proofs.Marking.{groups_sum}
use Rattle.marks.proofs.Memory.held_in_all.Goals as goal

pub total-requires : goal.total-requires
total-requires c =
    let h = c.self.invariant in
    omega (arith, groups_sum refl h.1, held_to_most h.0 most_processes)

pub returns : goal.returns
returns c held h = c.total.ensures ∙ groups_sum c.self.view_is h
