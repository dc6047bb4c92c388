-- `preparing::rooms::chain_has_room` meets its contract. The loop's invariant: the far ends of the arcs passed have room. The measure is
-- how many arcs are left.
use Rattle.std.proofs.Common.{ℕ, true, List, ◌≡◌, refl, sym, ap, ◌∙◌, arith, rules, ℤ}
use Rattle.tables.specs.declared.Chain.{Chain}
use Rattle.tables.specs.declared.Chain.TheVariants.{Out, In}
use Rattle.tables.specs.Table.{arc_at}
use Rattle.tables.specs.Waits.{Waits, waits_of}
use Rattle.tables.specs.Chains.{far, joins}
use Rattle.areas.specs.Area.{fields_in, run_in}
use Rattle.areas.specs.RunInLaws.{run_in_contained}
use Rattle.lenses.specs.ChangeLaws.{joins_neighbours}
use Rattle.preparing.specs.Receiving.{probes_go, probes_of}
use Rattle.lenses.proofs.ChainWalks.{Ahead, left_on, far_is, next_is, ready_right, ready_process, ahead_far, walked_first}
use Rattle.lenses.proofs.ChainWalks.{walked_next, walked_all, walked_fails}
use Rattle.preparing.proofs.Loads.{probe_room}
use Rattle.preparing.proofs.rooms.chain_has_room.Invariants.{room}
use Rattle.preparing.proofs.rooms.chain_has_room.Goals as goal

-- the probes of a chain go to those whom it joins
goes_along : (w : Waits) (c : Chain) (b q : ℕ) → joins c w b q ≡ probes_go w (probes_of c) b q
goes_along w Out b q = refl
goes_along w In b q = refl

-- the run's waits are the table's
by_table : (w : List ℤ) (c : Chain) (b q : ℕ) → joins c (run_in w).waits b q ≡ joins c (waits_of (fields_in w)) b q
by_table w c b q = ap (λ (v : Waits). joins c v b q) (run_in_contained w).waits

-- a probe goes to the far end of the arc ahead
goes_to : (w : List ℤ) {c : Chain} {b k q : ℕ} → Ahead c (fields_in w) b k → q ≡ far c (arc_at (fields_in w) k) → probes_go (run_in w).waits (probes_of c) b q ≡ true
goes_to w {c} {b} {k} {q} h e = sym (goes_along (run_in w).waits c b q) ∙ by_table w c b q ∙ rw e h.joined

pub loop-k-init : goal.loop-k-init
loop-k-init c = walked_first (ready_right c.args.area.ready) _ (ready_process c.args.area.ready c.requires.is_process) c.first-k.ensures

pub room_for-requires : goal.room_for-requires
room_for-requires c =
    let ahead = left_on (ready_right c.args.area.ready) c.loop-k.k c.loop-k.invariant.here c.loop-k-test.true in
    let to_is = far_is c.args.c (fields_in c.args.area.words.now) c.loop-k.k c.arc-arc.ensures c.far_of-q.ensures in
    let a = c.args in
    record {
      row = c.requires.row;
      is_number = rw to_is (ahead_far c.args.area.ready ahead).1;
      are_neighbours = rw to_is (joins_neighbours a.c (waits_of (fields_in a.area.words.now)) a.b (far a.c (arc_at (fields_in a.area.words.now) c.loop-k.k)) ahead.joined);
      one_or_two = search rules;
    }

pub returns-then-not-room_for : goal.returns-then-not-room_for
returns-then-not-room_for c =
    let ahead = left_on (ready_right c.args.area.ready) c.loop-k.k c.loop-k.invariant.here c.loop-k-test.true in
    let to_is = far_is c.args.c (fields_in c.args.area.words.now) c.loop-k.k c.arc-arc.ensures c.far_of-q.ensures in
    let a = c.args in
    let has = probe_room a.area.words.now a.a a.b (probes_of a.c) a.reply c.far_of-q.result c.is_for.result c.one_or_two.ensures c.room_for.ensures (goes_to _ ahead to_is) c.is_for.ensures in
    let tested = has ∙ ap (room a.area.words.now a.c a.a a.b a.reply) to_is in
    walked_fails (ready_right c.args.area.ready) (room a.area.words.now a.c a.a a.b a.reply) a.area.sizes.n c.args.area.ready.n_is
    (λ q. joins a.c (run_in a.area.words.now).waits a.b q) (λ q u. by_table a.area.words.now a.c a.b q) c.loop-k.invariant c.loop-k-test.true
    (sym tested ∙ c.if-not-room_for.true)

pub loop-k-smaller : goal.loop-k-smaller
loop-k-smaller c =
    let ahead = left_on (ready_right c.args.area.ready) c.loop-k.k c.loop-k.invariant.here c.loop-k-test.true in
    let next_arc = next_is c.args.c (fields_in c.args.area.words.now) c.loop-k.k c.arc-arc.ensures c.next_of-k.ensures in
    rw next_arc (omega (arith, ahead.less))

pub loop-k-preserved : goal.loop-k-preserved
loop-k-preserved c =
    let ahead = left_on (ready_right c.args.area.ready) c.loop-k.k c.loop-k.invariant.here c.loop-k-test.true in
    let to_is = far_is c.args.c (fields_in c.args.area.words.now) c.loop-k.k c.arc-arc.ensures c.far_of-q.ensures in
    let next_arc = next_is c.args.c (fields_in c.args.area.words.now) c.loop-k.k c.arc-arc.ensures c.next_of-k.ensures in
    let a = c.args in
    let has = probe_room a.area.words.now a.a a.b (probes_of a.c) a.reply c.far_of-q.result c.is_for.result c.one_or_two.ensures c.room_for.ensures (goes_to _ ahead to_is) c.is_for.ensures in
    let tested = has ∙ ap (room a.area.words.now a.c a.a a.b a.reply) to_is in
    rw next_arc
    (walked_next (ready_right c.args.area.ready) (room a.area.words.now a.c a.a a.b a.reply) c.loop-k.invariant c.loop-k-test.true
    (sym tested ∙ c.if-not-room_for.false))

pub returns : goal.returns
returns c =
    let a = c.args in
    walked_all (ready_right c.args.area.ready) _ a.area.sizes.n c.args.area.ready.n_is (λ q. joins a.c (run_in a.area.words.now).waits a.b q)
    (λ q u. by_table a.area.words.now a.c a.b q) c.loop-k.invariant c.loop-k-test.false
