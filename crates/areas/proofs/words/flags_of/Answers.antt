-- `areas::words::flags_of` meets its contract: each flag is 0 or 1, so the sum is at most 7.
use Rattle.std.proofs.Common.{arith}
use Rattle.areas.specs.Area.{flags_of}
use Rattle.steps.specs.StepLaws.{in_range_P}
use Rattle.areas.proofs.Signs.{word_number}
use Rattle.areas.proofs.words.flags_of.Goals as goal

pub overflow_mul-result : goal.overflow_mul-result
overflow_mul-result c =
    let h = in_range_P c.args.x c.requires in
    omega arith

pub overflow_add-result : goal.overflow_add-result
overflow_add-result c =
    let h = in_range_P c.args.x c.requires in
    omega arith

pub overflow_mul-result-2 : goal.overflow_mul-result-2
overflow_mul-result-2 c =
    let h = in_range_P c.args.x c.requires in
    omega arith

pub overflow_add-result-2 : goal.overflow_add-result-2
overflow_add-result-2 c =
    let h = in_range_P c.args.x c.requires in
    omega arith

pub overflow_cast-result : goal.overflow_cast-result
overflow_cast-result c =
    let h = in_range_P c.args.x c.requires in
    omega arith

pub returns : goal.returns
unfolding flags_of
returns c =
    let x = c.args.x in
    let h = in_range_P x c.requires in
    word_number (flags_of x) (omega arith)
