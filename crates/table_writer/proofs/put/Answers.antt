-- `put` replaces the two bytes of one field.
use Rattle.std.proofs.Common.{◌/◌, ◌%◌, ◌≡◌, arith}
use Rattle.table_writer.specs.Putting.{put_field}
use Rattle.table_writer.proofs.put.Goals as goal

pub returns : goal.returns
unfolding put_field
returns c =
    let a = c.args in
    let high : a.v / 256 % 256 ≡ a.v / 256 = omega (arith, c.ranges.v.fits) in
    rw (c.to_le_bytes.ensures, high)
