-- `choosing::deliver_drawn` meets its contract: each way out is a law of OnLink.
use Rattle.std.proofs.Common.{◌∙◌, ◌≡◌, rules, Err}
use Rattle.machine.specs.Calls.{drawn}
use Rattle.choosing.specs.OrderLaws.{drawn_names}
use Rattle.choosing.proofs.OnLink.{drawn_chosen, left_none, chosen_small, link_asks, note-asks, left_refused, left_delivered}
use Rattle.choosing.proofs.deliver_drawn.Goals as goal

pub returns-in_default : goal.returns-in_default
returns-in_default c =
    let chosen = drawn_chosen c.requires.running.ready c.requires.remembers c.args.state _ c.place_of-place.ensures c.choose.ensures in
    let h = left_none (drawn c.args.state) (drawn_names c.args.state) c.requires.running c.requires.remembers chosen c.in_default.is in
    record { told = h.0; area_after = h.1.0; remembers_after = h.1.1.0; running_after = h.1.1.1 }

pub cell_at-cell-requires : goal.cell_at-cell-requires
cell_at-cell-requires c =
    let chosen = drawn_chosen c.requires.running.ready c.requires.remembers c.args.state _ c.place_of-place.ensures c.choose.ensures in
    chosen_small (drawn c.args.state) (drawn_names c.args.state) c.requires.running c.requires.remembers chosen c.in-Some.is

pub deliver_on-requires : goal.deliver_on-requires
deliver_on-requires c =
    let chosen = drawn_chosen c.requires.running.ready c.requires.remembers c.args.state _ c.place_of-place.ensures c.choose.ensures in
    let h = link_asks (drawn c.args.state) (drawn_names c.args.state) c.requires.running c.requires.remembers chosen c.in-Some.is c.cell_at-cell.ensures.is c.place.ensures in
    record { running = c.requires.running; linked = h.0; numbers = h.1 }

pub invariant_of-note : goal.invariant_of-note
invariant_of-note c =
    let chosen = drawn_chosen c.requires.running.ready c.requires.remembers c.args.state _ c.place_of-place.ensures c.choose.ensures in
    let h = note-asks (drawn c.args.state) (drawn_names c.args.state) c.requires.running c.requires.remembers chosen c.in-Some.is
    c.deliver_on.ensures.told c.deliver_on.ensures.area_after c.in_ok-message.was c.cell_at-cell.ensures.is c.place.ensures in
    record { ready = h.0 }

pub note-requires : goal.note-requires
note-requires c =
    let chosen = drawn_chosen c.requires.running.ready c.requires.remembers c.args.state _ c.place_of-place.ensures c.choose.ensures in
    let h = note-asks (drawn c.args.state) (drawn_names c.args.state) c.requires.running c.requires.remembers chosen c.in-Some.is
    c.deliver_on.ensures.told c.deliver_on.ensures.area_after c.in_ok-message.was c.cell_at-cell.ensures.is c.place.ensures in
    record { linked = h.1.0; ends = h.1.1.0; receiver = h.1.1.1.0; marked_at = h.1.1.1.1 }

pub returns-in_err-message : goal.returns-in_err-message
returns-in_err-message c =
    let chosen = drawn_chosen c.requires.running.ready c.requires.remembers c.args.state _ c.place_of-place.ensures c.choose.ensures in
    let told : c.from_residual.result ≡ Err c.in_err-message.field-0.0 = search rules in
    let h = left_refused (drawn c.args.state) (drawn_names c.args.state) c.requires.running c.requires.remembers chosen c.in-Some.is
    c.deliver_on.ensures.told c.deliver_on.ensures.area_after c.in_err-message.was in
    record { told = told ∙ h.0; area_after = h.1.0; remembers_after = h.1.1.0; running_after = h.1.1.1 }

pub returns : goal.returns
returns c =
    let chosen = drawn_chosen c.requires.running.ready c.requires.remembers c.args.state _ c.place_of-place.ensures c.choose.ensures in
    let h = left_delivered (drawn c.args.state) (drawn_names c.args.state) c.requires.running c.requires.remembers chosen c.in-Some.is
    c.deliver_on.ensures.told c.deliver_on.ensures.area_after c.in_ok-message.was c.note.ensures in
    record { told = h.0; area_after = h.1.0; remembers_after = h.1.1.0; running_after = h.1.1.1 }
