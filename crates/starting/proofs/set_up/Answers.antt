-- `starting::set_up` meets its contract: the area that was laid out is ready to begin, and the run begins in it.
use Rattle.beginning.proofs.Beginning.{laid_unbegun, laid_begun}
use Rattle.starting.proofs.set_up.Goals as goal

pub begin-requires : goal.begin-requires
begin-requires c = laid_unbegun c.requires c.lay_out.new.area c.lay_out.ensures

pub returns : goal.returns
returns c = laid_begun c.requires c.lay_out.new.area c.lay_out.ensures c.begin.new.area c.begin.ensures
