-- `lines::Page::put_signed` meets its contract: the digits of the number without its sign, and a hyphen before them if it is below 0.
use Rattle.std.proofs.Common.{refl, arith}
use Rattle.steps.proofs.Counts.{signed_back}
use Rattle.lines.specs.Text.{decimal}
use Rattle.lines.specs.AddingLaws.{◌adds-then◌, adds_room}
use Rattle.lines.proofs.Signs.{signed_below, signed_not_below}
use Rattle.lines.proofs.Page.put_signed.Goals.{then-z-lt0, else-z-lt0}
use Rattle.lines.proofs.Page.put_signed.Goals as goal

pub put_word-requires : goal.put_word-requires
put_word-requires c = let low = signed_below (signed_back c.args.z c.ranges.z.sfits) refl c.if-z-lt0.true in omega (arith, rw low at c.requires)

pub put_number-requires : goal.put_number-requires
put_number-requires c =
    let back = signed_back c.args.z c.ranges.z.sfits in
    let is = c.unsigned_abs.ensures.value in
    elim c.if-z-lt0.branch [
      | then-z-lt0 w ↦ rw w.self-is (adds_room (decimal c.unsigned_abs.result) w.put_word.ensures (rw (signed_below back is w.if-z-lt0.true) at c.requires))
      | else-z-lt0 w ↦ rw w.self-is (rw (signed_not_below back is w.if-z-lt0.false) at c.requires)
    ]

pub returns : goal.returns
returns c =
    let back = signed_back c.args.z c.ranges.z.sfits in
    let is = c.unsigned_abs.ensures.value in
    elim c.if-z-lt0.branch [
      | then-z-lt0 w ↦ rw (signed_below back is w.if-z-lt0.true) (w.put_word.ensures adds-then (rw w.self-is at c.put_number.ensures))
      | else-z-lt0 w ↦ rw (signed_not_below back is w.if-z-lt0.false) (rw w.self-is at c.put_number.ensures)
    ]
