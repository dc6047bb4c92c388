-- `areas::words::lifted` meets its contract: 256 and a count in range is a number of 128 to 384.
use Rattle.std.proofs.Common.{◌<◌, ◌^◌, true, ◌≡◌, arith, ℤ, pos, ◌+ℤ◌}
use lib.Signed.{mag}
use Rattle.steps.specs.Step.{small}
use Rattle.steps.proofs.Counts.{signed_back}
use Rattle.areas.proofs.Signs.{counts_read, counts_as}
use Rattle.areas.specs.Places.{count_zero}
use Rattle.areas.specs.CodeLaws.{lifted_range, lifted_pos}
use Rattle.areas.proofs.words.lifted.Goals as goal

fits : (z : ℤ) → small z ≡ true → mag (pos count_zero +ℤ z) < 2 ^ 31
fits z e = rw (lifted_pos z e) (omega (arith, (lifted_range z e).1))

pub overflow_add-count : goal.overflow_add-count
overflow_add-count c = rw (signed_back c.args.count c.ranges.count.sfits) (record { sfits = fits c.args.count c.requires })

pub unsigned-requires : goal.unsigned-requires
unsigned-requires c =
    let z = c.args.count in
    rw (signed_back z c.ranges.count.sfits)
    (counts_read (pos count_zero +ℤ z) (fits z c.requires) (counts_as (pos count_zero +ℤ z) _ (lifted_pos z c.requires)))

pub returns : goal.returns
returns c =
    let z = c.args.count in
    rw (signed_back z c.ranges.count.sfits, signed_back (pos count_zero +ℤ z) (fits z c.requires)) at c.unsigned.ensures
