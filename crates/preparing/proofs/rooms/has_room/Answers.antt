-- `preparing::rooms::has_room` meets its contract: a link on which nothing is sent has room, and the others are tested.
use Rattle.std.proofs.Common.{sym, ◌∙◌}
use Rattle.areas.specs.Area.{run_in}
use Rattle.preparing.specs.Rooms.{room_to}
use Rattle.preparing.specs.Receiving.{probes_go, reply_goes}
use Rattle.preparing.proofs.Loads.{some_fails, all_pass, unsent_room}
use Rattle.preparing.proofs.rooms.has_room.Goals as goal

pub returns-else-reply_has_room : goal.returns-else-reply_has_room
returns-else-reply_has_room c =
    let a = c.args in
    rw c.if-reply_has_room.false
    (sym (some_fails a.area.sizes.n (room_to (run_in a.area.words.now) a.a a.b a.sent.probes a.sent.reply) (reply_goes a.sent.reply)
    (sym c.reply_has_room.ensures ∙ c.if-reply_has_room.false)))

pub returns-then-reply_has_room : goal.returns-then-reply_has_room
returns-then-reply_has_room c =
    let a = c.args in
    all_pass a.area.sizes.n (room_to (run_in a.area.words.now) a.a a.b a.sent.probes a.sent.reply) (reply_goes a.sent.reply)
    (probes_go (run_in a.area.words.now).waits a.sent.probes a.b)
    (λ q l u. unsent_room a.area.words.now a.a a.b a.sent.probes a.sent.reply q)
    (sym c.reply_has_room.ensures ∙ c.if-reply_has_room.true) c.probes_have_room.ensures
