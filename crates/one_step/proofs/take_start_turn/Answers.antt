-- `one_step::take_start_turn` meets its contract: an acknowledgement in range finds what it can change.
use Rattle.one_step.proofs.Turning.{acknowledgeable}
use Rattle.one_step.proofs.take_start_turn.Goals as goal

pub acknowledged-requires : goal.acknowledged-requires
acknowledged-requires c =
    let r = c.requires in
    let a = acknowledgeable c.args.message c.in-Ack.counts c.args.process c.in-Ack.is r.process_fits r.counts_fit r.num_fits in
    record { counts_small = a.0; sums_small = a.1.0; awaits = a.1.1 }
