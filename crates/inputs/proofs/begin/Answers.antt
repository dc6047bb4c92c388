-- `inputs::begin` meets its contract: each way out is a law of Ways, by what `split` and `start` answered.
use Rattle.std.proofs.Common.{arith}
use Rattle.std.proofs.lemmas.Result.{err_from_is_err_and}
use Rattle.inputs.proofs.Ways.{begin_split, begin_inside, begin_unstarted, begin_started}
use Rattle.inputs.proofs.begin.Goals as goal

pub returns-in_err-parts : goal.returns-in_err-parts
returns-in_err-parts c =
    let p = err_from_is_err_and c.from_residual.result c.from_residual.ensures.1 in
    let begins = begin_split _ _ c.split.ensures c.in_err-parts.was in
    record { answer = rw (p.1, p.2) begins.answer; area = begins.area }

pub slice_bounds-start-count : goal.slice_bounds-start-count
slice_bounds-start-count c =
    let inside = begin_inside _ c.args.area.now c.split.ensures c.in_ok-parts.was in
    omega (arith, inside)

pub slice_bounds-start-start : goal.slice_bounds-start-start
slice_bounds-start-start c =
    let inside = begin_inside _ c.args.area.now c.split.ensures c.in_ok-parts.was in
    omega (arith, inside)

pub slice_bounds-start-end : goal.slice_bounds-start-end
slice_bounds-start-end c =
    let inside = begin_inside _ c.args.area.now c.split.ensures c.in_ok-parts.was in
    omega (arith, inside)

pub returns-in_err-start : goal.returns-in_err-start
returns-in_err-start c =
    let p = err_from_is_err_and c.from_residual-in_err-start.result c.from_residual-in_err-start.ensures.1 in
    let begins = begin_unstarted _ _ c.split.ensures c.in_ok-parts.was c.start.ensures.answer c.start.ensures.area c.in_err-start.was in
    record { answer = rw (p.1, p.2) begins.answer; area = begins.area }

pub returns : goal.returns
returns c =
    let begins = begin_started _ _ c.split.ensures c.in_ok-parts.was c.start.ensures.answer c.start.ensures.area c.in_ok-start.was in
    record { answer = begins.answer; area = begins.area }
