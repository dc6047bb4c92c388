-- `rows::fill_square` meets its contract. The loop's invariant: the square holds the arcs before k. The measure is what is left.
use Rattle.std.proofs.Common.{ℕ, ◌+◌, ◌*◌, ◌-◌, ◌≤◌, List, ℤ, set, ◌≡◌, ap, arith}
use Rattle.tables.specs.declared.Arc.{Arc}
use Rattle.tables.specs.Table.{most_processes, arc_at}
use Rattle.tables.specs.Pairs.{square_side}
use Rattle.areas.specs.Places.{link_start}
use Rattle.areas.specs.Area.{fields_in}
use Rattle.areas.specs.Squares.{with_forth, with_back, cell}
use Rattle.tables.specs.declared.Sizes.{Sizes}
use Rattle.lenses.specs.Ready.{Ready}
use Rattle.lenses.specs.ReadyLaws.{ready_sizes}
use Rattle.lenses.proofs.ChainWalks.{ready_right}
use Rattle.rows.proofs.Cells.{place_is, place_low}
use Rattle.rows.proofs.Squaring.{Held, held_first, held_all, held_small, ends_low, held_forth, held_back}
use Rattle.rows.proofs.fill_square.Goals as goal

-- arc k of a tested area: its ends stand in the square, and it is put in forth and back
module _ {w : List ℤ} {z : Sizes} (y : Ready w z) (k : ℕ) (l : 1 ≤ k) (u : k ≤ z.m) {x : Arc} (arc : x ≡ arc_at (fields_in w) k) where
  ends_few : (x.from ≤ most_processes) × (x.to ≤ most_processes)
  ends_few = ends_low (ready_right y) (k - 1) (omega arith) (omega (arith, y.m_is)) (ap (λ (z : Arc). z.from) arc) (ap (λ (z : Arc). z.to) arc)

  module _ {i : ℕ} (start : i ≡ link_start z.n z.m k) {sq two : List ℕ} where
    put_forth : Held (fields_in w) (k - 1) (k - 1) sq → two ≡ set sq (x.from * square_side + x.to) (with_forth (cell sq x.from x.to) i)
        → Held (fields_in w) k (k - 1) two
    put_forth = held_forth (ready_right y) (k - 1) (omega arith) (omega (arith, y.m_is)) (ap (λ (z : Arc). z.from) arc) (ap (λ (z : Arc). z.to) arc) (place_is y k start)

    put_back : Held (fields_in w) k (k - 1) sq → two ≡ set sq (x.to * square_side + x.from) (with_back (cell sq x.to x.from) i)
        → Held (fields_in w) k k two
    put_back = held_back (ready_right y) (k - 1) (omega arith) (omega (arith, y.m_is)) (ap (λ (z : Arc). z.from) arc) (ap (λ (z : Arc). z.to) arc) (place_is y k start)

pub loop-k-init : goal.loop-k-init
loop-k-init c = (omega arith, omega arith, held_first (fields_in c.args.area.words.now) c.requires.square_length c.requires.zeros)

pub link_start-i-requires : goal.link_start-i-requires
link_start-i-requires c =
    let s = ready_sizes c.args.area.ready in record { sizes_right = s; arc = (omega arith, omega arith) }

pub put_arc-requires : goal.put_arc-requires
put_arc-requires c =
    let y = c.args.area.ready in
    let few = ends_few y c.loop-k.k (omega arith) (omega arith) c.arc-arc.ensures in
    record {
      numbers = few;
      inside = place_low y c.loop-k.k c.link_start-i.ensures (omega arith) (omega arith);
      square_length = c.loop-k.invariant.2.long;
      has_room = held_small (ready_right y) c.loop-k.invariant.2 (omega (arith, y.m_is)) (omega (arith, y.m_is)) _ _ few.0 few.1;
    }

pub put_arc-requires-in-loop-k : goal.put_arc-requires-in-loop-k
put_arc-requires-in-loop-k c =
    let y = c.args.area.ready in
    let few = ends_few y c.loop-k.k (omega arith) (omega arith) c.arc-arc.ensures in
    let h = put_forth y c.loop-k.k (omega arith) (omega arith) c.arc-arc.ensures c.link_start-i.ensures c.loop-k.invariant.2 c.put_arc.ensures in
    record {
      numbers = (few.1, few.0);
      inside = place_low y c.loop-k.k c.link_start-i.ensures (omega arith) (omega arith);
      square_length = h.long;
      has_room = held_small (ready_right y) h (omega (arith, y.m_is)) (omega (arith, y.m_is)) _ _ few.1 few.0;
    }

-- the square once arc k is put in both ways
module _ (c : goal.Else-k-k-end) where
  both_put : Held (fields_in c.args.area.words.now) c.loop-k.k c.loop-k.k c.put_arc-in-loop-k.new.square
  both_put =
      let y = c.args.area.ready in
      let k = c.loop-k.k in
      put_back y k (omega arith) (omega arith) c.arc-arc.ensures c.link_start-i.ensures
      (put_forth y k (omega arith) (omega arith) c.arc-arc.ensures c.link_start-i.ensures c.loop-k.invariant.2 c.put_arc.ensures)
      c.put_arc-in-loop-k.ensures

pub loop-k-preserved : goal.loop-k-preserved
loop-k-preserved c =
    let y = c.args.area.ready in
    let k = c.loop-k.k in
    let h = put_forth y k (omega arith) (omega arith) c.arc-arc.ensures c.link_start-i.ensures c.loop-k.invariant.2 c.put_arc.ensures in
    let e : k + 1 - 1 ≡ k = omega arith in (
      omega arith,
      omega arith,
      rw e (put_back y k (omega arith) (omega arith) c.arc-arc.ensures c.link_start-i.ensures h c.put_arc-in-loop-k.ensures),
    )

pub returns : goal.returns
returns c = held_all c.loop-k.invariant.2 (omega (arith, c.args.area.ready.m_is))

pub returns-2 : goal.returns-2
returns-2 c = held_all (both_put c) (omega (arith, c.args.area.ready.m_is))
