-- `marks::Memory::begin_at` meets its contract.
use Rattle.std.proofs.Common.{ℕ, ◌-◌, ◌*◌, ◌≡◌, ap, arith}
use Rattle.sets.specs.Sets.{lowest_in}
use Rattle.marks.specs.Marks.{group_size, held_to}
use Rattle.marks.specs.GroupLaws.{least_begins, groups_first}
use Rattle.marks.proofs.Marking.{group_next, groups_long}
use Rattle.marks.proofs.Memory.begin_at.Goals as goal

-- nothing stands before the first place
pub returns-then-place-eq0 : goal.returns-then-place-eq0
returns-then-place-eq0 c mark h =
    let o = c.lowest_in.ensures in
    let e : c.lowest_in.result ≡ lowest_in c.args.self.now 0 = rw (← c.self.view_is) o.is in
    let f : held_to mark (c.lowest_in.result - 1) ≡ held_to mark (lowest_in c.args.self.now 0 - 1) = ap (λ (b : ℕ). held_to mark (b - 1)) e in
    (o.low, omega (arith, f, least_begins h, c.if-place-eq0.true))

pub loop-count-init : goal.loop-count-init
loop-count-init c = (omega arith, omega arith, λ mark h. omega (arith, groups_first h))

pub loop-count-preserved : goal.loop-count-preserved
loop-count-preserved c = (
  omega (arith, groups_long c.self.invariant, c.loop-count-test.true),
  omega (arith, c.loop-count.invariant.1),
  λ mark h. omega (
    arith,
    c.loop-count.invariant.2 mark h,
    c.if-left-count.false,
    group_next c.self.view_is h c.loop-count.count-index c.loop-count-test.true,
  ),
)

pub returns-after-loop-count : goal.returns-after-loop-count
returns-after-loop-count c mark h =
    let e : c.loop-count.receiver - 1 ≡ group_size * c.loop-count.count-index = omega (arith, c.loop-count.invariant.1) in
    (omega (arith, c.loop-count.invariant.1), rw e (c.loop-count.invariant.2 mark h))

pub returns-then-left-count : goal.returns-then-left-count
returns-then-left-count c mark h =
    let e : c.loop-count.receiver - 1 ≡ group_size * c.loop-count.count-index = omega (arith, c.loop-count.invariant.1) in
    (omega (arith, c.loop-count.invariant.1), rw e (c.loop-count.invariant.2 mark h))
