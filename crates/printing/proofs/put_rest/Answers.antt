-- The lines of the program's own deliveries, and then the end, from the area that they left.
use Rattle.std.proofs.Common.{refl}
use Rattle.tables.specs.Pairs.{square_size}
use Rattle.checks.specs.Run.{knot}
use Rattle.areas.specs.Area.{run_in}
use Rattle.area_calls.specs.TestedLaws.{fresh_empty}
use Rattle.lines.specs.AddingLaws.{◌adds-then◌, adds_room, room_first}
use Rattle.program_text.specs.Program.{end_run, own_text, end_text, rest_text}
use Rattle.printing.proofs.put_rest.Goals as goal

pub fill_square-requires-clause-zeros : goal.fill_square-requires-clause-zeros
fill_square-requires-clause-zeros c = fresh_empty square_size _ refl

pub put_owns-requires-clause-room : goal.put_owns-requires-clause-room
unfolding rest_text
put_owns-requires-clause-room c =
    let q = run_in c.args.area.now in
    room_first _ _ (own_text knot.most q) (end_text (end_run q)) c.requires.room

pub put_end-requires : goal.put_end-requires
unfolding rest_text
put_end-requires c =
    let own = c.put_owns.ensures in
    rw own.area_after (adds_room (end_text (end_run (run_in c.args.area.now))) own.put c.requires.room)

pub returns : goal.returns
unfolding rest_text
returns c =
    let own = c.put_owns.ensures in
    own.put adds-then (rw own.area_after at c.put_end.ensures)
