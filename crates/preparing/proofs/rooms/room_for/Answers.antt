-- `preparing::rooms::room_for` meets its contract: what is sent needs so many free slots, one fewer on the link that the message comes off.
use Rattle.std.proofs.Common.{ℕ, ◌+◌, ◌-◌, ◌&&◌, ◌≡◌, sym, ap, ◌∙◌, arith, eq-eqb, le-leb, eqb, leb, length, true, List, ℤ, ◌≤◌, get_or}
use Rattle.base.specs.Choice.{bit}
use Rattle.areas.specs.Used.{link_slots}
use Rattle.areas.specs.Area.{fields_in, run_in}
use Rattle.areas.specs.Squares.{place_in, Linked, Row}
use Rattle.tables.specs.declared.Sizes.{Sizes}
use Rattle.tables.specs.Waits.{waits_of, neighbours}
use Rattle.lenses.specs.Ready.{Ready}
use Rattle.areas.specs.SquareLaws.{row_linked}
use Rattle.lenses.specs.ReadyLaws.{run_in_few, ready_sizes}
use Rattle.preparing.proofs.rooms.room_for.Goals as goal

-- that link
own_link : (l a b q s : ℕ) → b ≡ a → q ≡ b → l - bit (eqb b a && eqb q b) + s ≡ l - 1 + s
own_link l a b q s e f = rw (eq-eqb b a e, eq-eqb q b f)

-- the link to q begins where b's row says
linked_by : {w : List ℤ} {z : Sizes} (y : Ready w z) {b q : ℕ} {row : List ℕ} → Row (fields_in w) b row → q ≤ z.n → neighbours (waits_of (fields_in w)) b q ≡ true
    → {j : ℕ} → j ≡ get_or row q 0 → {i : ℕ} → i ≡ place_in j → Linked (fields_in w) b q i
linked_by {w} y r u j e f = row_linked (fields_in w) r (omega (arith, u, ready_sizes y)) j e f

pub cell_of-requires : goal.cell_of-requires
cell_of-requires c = omega (arith, c.requires.row.long, ready_sizes c.args.area.ready, c.requires.is_number)

pub has_free-requires-clause-linked : goal.has_free-requires-clause-linked
has_free-requires-clause-linked c =
    linked_by c.args.area.ready c.requires.row c.requires.is_number c.requires.are_neighbours c.cell_of.ensures.is c.place.ensures

pub has_free-requires-else-sent-eq1-clause-linked : goal.has_free-requires-else-sent-eq1-clause-linked
has_free-requires-else-sent-eq1-clause-linked c =
    linked_by c.args.area.ready c.requires.row c.requires.is_number c.requires.are_neighbours c.cell_of.ensures.is c.place.ensures

pub returns-then-sent-eq1 : goal.returns-then-sent-eq1
returns-then-sent-eq1 c =
    let a = c.args in
    let l = length ((run_in a.area.words.now).link a.b a.q) in
    rw (eq-eqb a.sent 1 c.if-sent-eq1.true)
    (sym
    (ap (λ (k : ℕ). leb k link_slots) (own_link l a.a a.b a.q a.sent c.if-b-a.false c.if-q-b.false)
    ∙ le-leb (l - 1 + a.sent) link_slots (omega (arith, c.if-sent-eq1.true, run_in_few a.area.words.now a.b a.q))))
