-- The area of a begun input is well formed, so that it is ready; the lines of the picks are put, and then the rest.
use Rattle.inputs.specs.Input.{picks_in}
use Rattle.lines.specs.AddingLaws.{◌adds-then◌, adds_room, room_first}
use Rattle.program_text.specs.Program.{first_run, picked_run, picks_text, rest_text, check_text}
use Rattle.printing.proofs.put_begun.Goals as goal

pub put_picks-requires-clause-room : goal.put_picks-requires-clause-room
unfolding check_text
put_picks-requires-clause-room c =
    let bs = c.args.input.now in
    rw c.requires.first (room_first _ _ (picks_text bs 0 (picks_in bs) (first_run bs)) (rest_text (picked_run bs)) c.requires.room)

pub put_rest-requires-clause-room : goal.put_rest-requires-clause-room
unfolding check_text
put_rest-requires-clause-room c =
    let put = c.put_picks.ensures in
    let is = c.requires.first in
    rw (put.area_after, is) (adds_room (rest_text (picked_run c.args.input.now)) (rw is at put.put) c.requires.room)

pub returns : goal.returns
unfolding check_text
returns c =
    let put = c.put_picks.ensures in
    let is = c.requires.first in
    (rw is at put.put) adds-then (rw (put.area_after, is) at c.put_rest.ensures)
