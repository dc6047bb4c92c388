-- `table_reader::chain_unlike` meets its contract: the walk along the chain is `Going`, until an arc leads where one before it does, or the chain
-- ends. The measure is what is left of the chain.
use Rattle.std.proofs.Common.{ℕ, ◌≤◌, ◌<◌, List, ◌≡◌, arith, length, get_or, set}
use Rattle.tables.specs.declared.Arc.{Arc}
use Rattle.tables.specs.declared.Sizes.{Sizes}
use Rattle.tables.specs.declared.Chain.TheVariants.{Out}
use Rattle.tables.specs.Table.{field_of, n_of, most_processes, arc_at, next}
use Rattle.tables.specs.Pairs.{square_side}
use Rattle.table_reader.specs.Inner.{HoldsTable, Chained, Clash}
use Rattle.table_reader.proofs.Clashes.{to_go, Going, Ahead, arc_to, going_first, going_ahead, going_clash, going_next, going_end}
use Rattle.table_reader.proofs.chain_unlike.Goals as goal

-- what the bytes hold has at most 384 processes
module _ {bs : List ℕ} {sizes : Sizes} (h : HoldsTable bs sizes) where
  few : n_of (field_of bs) ≤ most_processes
  few = omega (arith, h.processes, h.few)

  -- at arc k of the chain, which is a: what is known there, where it leads, a clash, and the step to the next
  module _ (z : Chained (field_of bs)) {p k : ℕ} {ls : List ℕ} (g : Going (field_of bs) p k ls) (some : k ≡ 0 → ⊥) {a : Arc} (e : a ≡ arc_at (field_of bs) k) where
    here : Ahead (field_of bs) p k
    here = going_ahead _ few z _ _ g some

    inside : a.to < square_side
    inside = rw e (arc_to _ few z _ here.arc)

    clash : get_or ls a.to 0 ≡ p → Clash (field_of bs)
    clash met = going_clash _ few z _ g some (rw e at met)

    shorter : {nx : ℕ} → nx ≡ next Out a → length (to_go (field_of bs) nx) < length (to_go (field_of bs) k)
    shorter f = rw (f, e) (omega (arith, here.less))

    onward : {nx : ℕ} → nx ≡ next Out a → (get_or ls a.to 0 ≡ p → ⊥) → Going (field_of bs) p nx (set ls a.to p)
    onward f new = rw (f, e) (going_next _ few z _ g some (rw e at new))

pub loop-k-init : goal.loop-k-init
loop-k-init c =
    going_first _ (few c.requires.holds_table) c.requires.chained _
    (c.requires.process.0, omega (arith, c.requires.holds_table.processes, c.requires.process.1)) c.requires.noted c.first_of-k.ensures

pub offset_bounds-last-to : goal.offset_bounds-last-to
offset_bounds-last-to c = omega (arith, inside c.requires.holds_table c.requires.chained c.loop-k.invariant c.loop-k-test.true c.arc_at-a.ensures)

pub bounds-last-to : goal.bounds-last-to
bounds-last-to c = omega (arith, inside c.requires.holds_table c.requires.chained c.loop-k.invariant c.loop-k-test.true c.arc_at-a.ensures)

pub returns-then-last-to-clause-chain_told : goal.returns-then-last-to-clause-chain_told
returns-then-last-to-clause-chain_told c =
    clash c.requires.holds_table c.requires.chained c.loop-k.invariant c.loop-k-test.true c.arc_at-a.ensures c.if-last-to.true

pub offset_bounds-last-to-in-loop-k : goal.offset_bounds-last-to-in-loop-k
offset_bounds-last-to-in-loop-k c = omega (arith, inside c.requires.holds_table c.requires.chained c.loop-k.invariant c.loop-k-test.true c.arc_at-a.ensures)

pub bounds-last-to-in-loop-k : goal.bounds-last-to-in-loop-k
bounds-last-to-in-loop-k c = omega (arith, inside c.requires.holds_table c.requires.chained c.loop-k.invariant c.loop-k-test.true c.arc_at-a.ensures)

pub loop-k-smaller : goal.loop-k-smaller
loop-k-smaller c =
    shorter c.requires.holds_table c.requires.chained c.loop-k.invariant c.loop-k-test.true c.arc_at-a.ensures c.next_of-k.ensures

pub loop-k-preserved : goal.loop-k-preserved
loop-k-preserved c =
    onward c.requires.holds_table c.requires.chained c.loop-k.invariant c.loop-k-test.true c.arc_at-a.ensures c.next_of-k.ensures c.if-last-to.false

pub returns-clause-chain_told : goal.returns-clause-chain_told
returns-clause-chain_told c =
    (going_end _ (few c.requires.holds_table) c.requires.chained _ c.loop-k.invariant c.loop-k-test.false).0
