-- `inputs::pick_at` meets its contract: the four bytes of a pick lie inside the input, and its two fields are those of the part that
-- begins at the table's end.
use Rattle.std.proofs.Common.{◌+◌, ◌*◌, ◌≤◌, arith, length}
use Rattle.inputs.proofs.Ways.{pick_inside, pick_room_is, pick_small, pick_made}
use Rattle.inputs.proofs.pick_at.Goals as goal

pub slice_bounds-picks-count : goal.slice_bounds-picks-count
slice_bounds-picks-count c =
    let inside : let a = c.args in a.end + 4 * a.j + 4 ≤ length a.input.now = pick_inside _ _ _ c.requires.end_is c.requires.is_pick in
    omega (arith, inside)

pub slice_bounds-picks-start : goal.slice_bounds-picks-start
slice_bounds-picks-start c =
    let inside : let a = c.args in a.end + 4 * a.j + 4 ≤ length a.input.now = pick_inside _ _ _ c.requires.end_is c.requires.is_pick in
    omega (arith, inside)

pub overflow_mul-j : goal.overflow_mul-j
overflow_mul-j c =
    let inside : let a = c.args in a.end + 4 * a.j + 4 ≤ length a.input.now = pick_inside _ _ _ c.requires.end_is c.requires.is_pick in
    omega (arith, inside)

pub field-from-requires : goal.field-from-requires
field-from-requires c = pick_room_is _ _ _ c.requires.end_is c.requires.is_pick (2 * c.args.j) (omega arith)

pub overflow_cast-from : goal.overflow_cast-from
overflow_cast-from c =
    let a = c.args in
    omega (arith, pick_small a.input.now a.end (λ i. (c.type_inv.input i).fits) (2 * a.j) _ c.field-from.ensures)

pub overflow_mul-j-2 : goal.overflow_mul-j-2
overflow_mul-j-2 c =
    let inside : let a = c.args in a.end + 4 * a.j + 4 ≤ length a.input.now = pick_inside _ _ _ c.requires.end_is c.requires.is_pick in
    omega (arith, inside)

pub overflow_add-j : goal.overflow_add-j
overflow_add-j c =
    let inside : let a = c.args in a.end + 4 * a.j + 4 ≤ length a.input.now = pick_inside _ _ _ c.requires.end_is c.requires.is_pick in
    omega (arith, inside)

pub field-to-requires : goal.field-to-requires
field-to-requires c = pick_room_is _ _ _ c.requires.end_is c.requires.is_pick (2 * c.args.j + 1) (omega arith)

pub overflow_cast-to : goal.overflow_cast-to
overflow_cast-to c =
    let a = c.args in
    omega (arith, pick_small a.input.now a.end (λ i. (c.type_inv.input i).fits) (2 * a.j + 1) _ c.field-to.ensures)

pub returns : goal.returns
returns c = pick_made _ _ _ c.requires.end_is _ _ c.field-from.ensures c.field-to.ensures
