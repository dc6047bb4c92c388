-- `preparing::rooms::reply_has_room` meets its contract, by whether there is an acknowledgement.
use Rattle.std.proofs.Common.{ℕ, ◌≤◌, Bool, not, ◌||◌, ◌≡◌, refl, ap, ◌∙◌, arith, eq-eqb, Option, Some}
use Rattle.base.specs.Sums.{all_to}
use Rattle.steps.specs.declared.Reply.{Reply}
use Rattle.areas.specs.Area.{run_in}
use Rattle.lenses.specs.ReadyLaws.{ready_sizes}
use Rattle.preparing.specs.Rooms.{room_to}
use Rattle.preparing.specs.Receiving.{probes_go, reply_goes}
use Rattle.preparing.proofs.Loads.{test_one, test_none, probes_by_is, reply_room}
use Rattle.preparing.proofs.rooms.reply_has_room.Goals as goal

-- the test of whom the acknowledgement is for
reply_one : (n : ℕ) (v : Option Reply → ℕ → Bool) (y : Reply) {z : Option Reply} → z ≡ Some y → (1 ≤ y.to) × (y.to ≤ n) → {r : Bool} → r ≡ v (Some y) y.to
    → r ≡ all_to n (λ q. not (reply_goes z q) || v z q)
reply_one n v y e u f = rw (e, f) (test_one n (v (Some y)) y.to u.0 u.1)

pub cell_of-cell-requires : goal.cell_of-cell-requires
cell_of-cell-requires c =
    omega (arith, (c.requires.reply_near c.in-Some.reply c.in-Some.is).1, c.requires.row.long, ready_sizes c.args.area.ready)

pub room_for-requires-clause-is_number : goal.room_for-requires-clause-is_number
room_for-requires-clause-is_number c = (c.requires.reply_near c.in-Some.reply c.in-Some.is).1

pub returns-in_default : goal.returns-in_default
returns-in_default c =
    let a = c.args in
    test_none a.area.sizes.n (room_to (run_in a.area.words.now) a.a a.b a.sent.probes a.sent.reply) (reply_goes a.sent.reply)
    (λ q. ap (λ (z : Option Reply). reply_goes z q) c.in_default.is)

pub returns : goal.returns
returns c =
    let a = c.args in
    let y = c.in-Some.reply in
    let known = c.requires.reply_near y c.in-Some.is in
    let goes-is : c.goes_by.result ≡ probes_go (run_in a.area.words.now).waits a.sent.probes a.b y.to = let z = ready_sizes a.area.ready in
    c.goes_by.ensures ∙ probes_by_is a.area.words.now c.requires.row a.sent.probes y.to (omega (arith, known.1)) c.cell_of-cell.ensures.is in
    reply_one a.area.sizes.n (room_to (run_in a.area.words.now) a.a a.b a.sent.probes) y c.in-Some.is (known.0, known.1)
    (reply_room a.area.words.now a.a a.b a.sent.probes (Some y) y.to c.goes_by.result c.one_or_two.ensures c.room_for.ensures (eq-eqb y.to y.to refl) goes-is)
