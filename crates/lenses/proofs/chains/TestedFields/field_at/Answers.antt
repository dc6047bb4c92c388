-- `field_at` of a tested area meets its contract: the field's word stands inside the area.
use Rattle.std.proofs.Common.{arith, pos, get_or}
use Rattle.areas.specs.Used.{Counts}
use Rattle.areas.proofs.Signs.{counts_read}
use Rattle.lenses.specs.ReadyLaws.{ready_sizes}
use Rattle.lenses.proofs.Stores.{long, field_counts}
use Rattle.lenses.proofs.ChainWalks.{field_is}
use Rattle.lenses.proofs.chains.TestedFields.field_at.Goals as goal

pub field_place-requires : goal.field_place-requires
field_place-requires c = omega (arith, ready_sizes c.args.self.ready, c.requires)

pub offset_bounds-self-field_place : goal.offset_bounds-self-field_place
offset_bounds-self-field_place c = omega (arith, ready_sizes c.args.self.ready, c.requires, c.field_place.ensures)

pub bounds-self-field_place : goal.bounds-self-field_place
bounds-self-field_place c = omega (arith, long c.args.self.ready, c.requires, c.field_place.ensures)

pub unsigned-requires : goal.unsigned-requires
unsigned-requires c =
    let z = get_or c.args.self.words.now c.field_place.result (pos 0) in
    let e : Counts z = rw c.field_place.ensures (field_counts c.args.self.ready c.requires) in
    counts_read z (omega arith) e

pub returns : goal.returns
returns c = field_is c.args.self.ready c.requires c.field_place.ensures (omega arith) c.unsigned.ensures
