-- `areas::words::put_record` meets its contract: each value is in its range, so that it is itself as a word, and the five stores are one after another.
use Rattle.std.proofs.Common.{add-zero, add-one, arith}
use native.Mathlib.Numerals.{add-two, add-three, add-four}
use Rattle.steps.proofs.Counts.{signed_back, mag_abs}
use Rattle.areas.specs.Area.{words_to}
use Rattle.areas.specs.Writes.{record_words}
use Rattle.steps.specs.StepLaws.{in_range_P}
use Rattle.areas.proofs.Signs.{word_number}
use Rattle.areas.proofs.words.put_record.Goals as goal

pub overflow_cast-area : goal.overflow_cast-area
overflow_cast-area c =
    let h = in_range_P c.args.x c.requires.in_range in
    omega arith

pub returns : goal.returns
unfolding record_words words_to
returns c =
    let x = c.args.x in
    let h = in_range_P x c.requires.in_range in
    let flags = c.flags_of in
    rw (
      signed_back flags.result flags.type_inv,
      flags.ensures,
      signed_back x.cs (omega (arith, mag_abs x.cs)),
      word_number x.num (omega arith),
      word_number x.father (omega arith),
      signed_back x.second (omega (arith, mag_abs x.second)),
      add-zero,
      add-one,
      add-two,
      add-three,
      add-four,
    )
