-- `marks::Memory::new` meets its contract.
use Rattle.std.proofs.Common.{false}
use Rattle.marks.proofs.Marking.{cleared}
use Rattle.marks.proofs.Memory.new.Goals as goal

pub invariant_of-result : goal.invariant_of-result
invariant_of-result c = ((λ a b. false), cleared)

pub returns : goal.returns
returns c = cleared
