-- `lenses::heading::sizes_of` meets its contract: the two words are those of the table's first fields.
use Rattle.std.proofs.Common.{sym, ◌∙◌, arith, pos, nat_abs, get_or}
use Rattle.areas.specs.Places.{field_place}
use Rattle.areas.specs.RunInLaws.{fields_in_n, fields_in_m}
use Rattle.areas.proofs.Signs.{word_read, counts_read}
use Rattle.lenses.proofs.Stores.{ready_own, field_counts}
use Rattle.lenses.specs.ReadyLaws.{right_long}
use Rattle.lenses.proofs.heading.sizes_of.Goals as goal

pub bounds-area-14 : goal.bounds-area-14
bounds-area-14 c = omega (arith, right_long c.args.area.now c.requires)

pub unsigned-requires : goal.unsigned-requires
unsigned-requires c = counts_read _ (omega arith) (field_counts (ready_own c.args.area.now c.requires) {j = 0} (omega arith))

pub bounds-area-15 : goal.bounds-area-15
bounds-area-15 c = omega (arith, right_long c.args.area.now c.requires)

pub unsigned-requires-2 : goal.unsigned-requires-2
unsigned-requires-2 c = counts_read _ (omega arith) (field_counts (ready_own c.args.area.now c.requires) {j = 1} (omega arith))

pub returns : goal.returns
returns c =
    let w = c.args.area.now in
    record {
      right = c.requires;
      n_is = word_read nat_abs (get_or w (field_place 0) (pos 0)) (omega arith) c.unsigned.ensures ∙ sym (fields_in_n w);
      m_is = word_read nat_abs (get_or w (field_place 1) (pos 0)) (omega arith) c.unsigned-2.ensures ∙ sym (fields_in_m w);
    }
