-- `marks::Memory::clear` meets its contract.
use Rattle.std.proofs.Common.{false}
use Rattle.marks.proofs.Marking.{cleared}
use Rattle.marks.proofs.Memory.clear.Goals as goal

pub invariant_of-self : goal.invariant_of-self
invariant_of-self c = ((λ a b. false), cleared)

pub returns : goal.returns
returns c = cleared
