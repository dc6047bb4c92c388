-- `area_tests::testing::fill` meets its contract. The loop's invariant: the sets are those of the arcs before k. One arc more puts one into a set who was
-- not in it, since no two arcs agree in both ends. The measure is what is left.
use Rattle.std.proofs.Common.{ℕ, suc, ◌+◌, ◌-◌, ◌^◌, ◌≤◌, ◌<◌, List, ◌≡◌, ap, ◌∙◌, arith, length}
use Rattle.tables.specs.declared.Arc.{Arc}
use Rattle.tables.specs.Table.{Fields, field_of, m_of, most_processes, IsProcess, arc_at}
use Rattle.tables.specs.Layout.{Right}
use Rattle.sets.specs.Sets.{sets_size, word_digits, digit_of, word, added_to}
use Rattle.region_tests.specs.Waiting.{SetsAre}
use Rattle.region_tests.specs.WaitingLaws.{first_arcs, arcs_none, arcs_asks, arcs_more, arcs_all}
use Rattle.area_tests.proofs.testing.fill.Goals as goal

-- arc k was read
module _ (t : Fields) (l : List ℕ) (right : Right t) (k : ℕ) (low : 1 ≤ k) (few : k ≤ m_of t) (h : SetsAre (first_arcs t (k - 1)) l)
    {arc : Arc} (e : arc ≡ arc_at t k) where
  -- it comes after k - 1 others
  arc_is : arc ≡ arc_at t (suc (k - 1))
  arc_is = let q : k ≡ suc (k - 1) = omega arith in e ∙ ap (arc_at t) q

  asks : (sets_size ≤ length l) × ((arc.from ≤ most_processes) × (IsProcess most_processes arc.to
      × (word l arc.from arc.to + 2 ^ digit_of arc.to < 2 ^ word_digits)))
  asks = rw arc_is (omega (arith, h.long), arcs_asks t l right (k - 1) (omega arith) h)

  more : {new : List ℕ} → new ≡ added_to l arc.from arc.to → SetsAre (first_arcs t (k + 1 - 1)) new
  more f =
      let q : k + 1 - 1 ≡ suc (k - 1) = omega arith in
      rw (f, arc_is, q) (arcs_more t l right (k - 1) (omega arith) h)

pub loop-k-init : goal.loop-k-init
loop-k-init c = (omega arith, omega arith, arcs_none _ _ c.requires.long c.requires.zeros)

pub add-requires-clause-digit_free : goal.add-requires-clause-digit_free
add-requires-clause-digit_free c =
    let loop = c.loop-k in
    (asks (field_of c.args.table.now) loop.waits c.requires.right loop.k (omega arith) (omega arith) loop.invariant.2 c.arc_at-a.ensures).1.1.1

pub loop-k-preserved : goal.loop-k-preserved
loop-k-preserved c =
    let loop = c.loop-k in (
      omega arith,
      omega arith,
      more (field_of c.args.table.now) loop.waits c.requires.right loop.k (omega arith) (omega arith) loop.invariant.2 c.arc_at-a.ensures
          c.add.ensures,
    )

pub returns : goal.returns
returns c =
    let loop = c.loop-k in
    arcs_all (field_of c.args.table.now) loop.waits (loop.k - 1) (omega arith) loop.invariant.2

pub returns-2 : goal.returns-2
returns-2 c =
    let loop = c.loop-k in
    let t = field_of c.args.table.now in
    arcs_all t _ (loop.k + 1 - 1) (omega arith)
    (more t loop.waits c.requires.right loop.k (omega arith) (omega arith) loop.invariant.2 c.arc_at-a.ensures c.add.ensures)
