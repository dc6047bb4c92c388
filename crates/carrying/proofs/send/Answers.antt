-- `carrying::send` meets its contract, by the kind of probes.
use Rattle.std.proofs.Common.{sym}
use Rattle.tables.specs.declared.Chain.TheVariants.{Out, In}
use Rattle.areas.specs.AreaLaws.{stored_same}
use Rattle.carrying.proofs.send.Goals as goal

pub broadcast-requires-clause-spreadable : goal.broadcast-requires-clause-spreadable
broadcast-requires-clause-spreadable c = c.requires.spreadable Out c.in-Sucs.is

pub broadcast-requires-in-Pres-clause-spreadable : goal.broadcast-requires-in-Pres-clause-spreadable
broadcast-requires-in-Pres-clause-spreadable c = c.requires.spreadable In c.in-Pres.is

pub returns-in-Nothing : goal.returns-in-Nothing
returns-in-Nothing c = rw c.in-Nothing.is (sym (stored_same c.args.area.now c.requires.ready.right))
