-- `choosing::choose` meets its contract. The outer loop's invariant: the links to the receivers before b, and those left, are the place; the inner
-- loop stands at the sender that was found, on whose link a message waits, and is left there by label.
use Rattle.std.proofs.Common.{ℕ, ◌+◌, ◌-◌, ◌≤◌, ◌<◌, true, List, ◌≡◌, sym, ap, ◌∙◌, arith, ℤ, None}
use mathlib.Core.Bool.{false≢true}
use Rattle.base.specs.Sums.{count_to}
use Rattle.tables.specs.declared.Sizes.{Sizes}
use Rattle.tables.specs.Table.{most_processes, IsProcess}
use Rattle.checks.specs.Run.{Run}
use Rattle.machine.specs.Calls.{pair, waiting, link_at, links_of}
use Rattle.areas.specs.Area.{run_in}
use Rattle.lenses.specs.Ready.{Ready}
use Rattle.lenses.specs.ReadyLaws.{ready_n, ready_sizes}
use Rattle.sets.specs.Sets.{Ranked}
use Rattle.marks.specs.Changes.{count_of}
use Rattle.marks.specs.GroupLaws.{held_to_within, held_to_next}
use Rattle.remembering.specs.Memory.{Remembers}
use Rattle.choosing.specs.Answers.{chosen_of}
use Rattle.choosing.specs.OrderLaws.{link_found, sender_in, link_waits, link_none}
use Rattle.choosing.proofs.OnLink.{ready_few, ready_within}
use Rattle.choosing.proofs.choose.Invariants.{So}
use Rattle.choosing.proofs.choose.Goals as goal
use Rattle.choosing.proofs.choose.Goals.{then-left-held+else-loop-from-test, else-left-held}

-- a is the sender of the link at the place, which is to b
record Here (r : Run) (place a b : ℕ) : Type 0 where
  is : link_at place (links_of r) ≡ pair a b
  from_in : IsProcess r.waits.n a
  waits : waiting (r.link a b) ≡ true

module _ {w : List ℤ} {s : Sizes} (y : Ready w s) {l : List ℕ} (h : Remembers (run_in w) l) (place b left : ℕ) (lo : 1 ≤ b) (so : So (run_in w) place b left) where
  most : b < s.n + 1 → b ≤ most_processes
  most u = omega (arith, (ready_sizes y).0)

  -- the count of a receiver, as it is read
  count_is : b < s.n + 1 → {i : ℕ} → i ≡ count_of l b → i ≡ count_to most_processes (λ a. waiting ((run_in w).link a b))
  count_is hi e = e ∙ h.rows.counts b (lo, most hi)

  here : b < s.n + 1 → {i : ℕ} → i ≡ count_of l b → left < i → {a : ℕ} → Ranked l b left a → Here (run_in w) place a b
  here hi e u {a} ranked =
      let j : IsProcess (run_in w).waits.n b = (lo, omega (arith, ready_n y)) in
      let nth = ranked (λ x. waiting ((run_in w).link x b)) (h.rows.senders b (lo, most hi)) in
      let more : left < count_to most_processes (λ x. waiting ((run_in w).link x b)) = omega (arith, u, count_is hi e) in
      record {
        is = link_found (run_in w) (ready_few y) (ready_within y) place a b left j so more nth;
        from_in = sender_in (run_in w) (ready_few y) (ready_within y) place a b left j so more nth;
        waits = link_waits (run_in w) (ready_few y) (ready_within y) place a b left j so more nth;
      }

  none : s.n + 1 ≤ b → None ≡ chosen_of (link_at place (links_of (run_in w)))
  none u =
      let v = held_to_within (λ x z. waiting ((run_in w).link x z)) (run_in w).waits.n (b - 1) (omega (arith, ready_n y)) in
      rw (link_none (run_in w) (ready_few y) (ready_within y) place (omega (arith, so, v)))

  passed_over : b < s.n + 1 → {i : ℕ} → i ≡ count_of l b → i ≤ left → {k : ℕ} → k ≡ left - i → So (run_in w) place (b + 1) k
  passed_over hi e u f =
      let next = held_to_next (λ x z. waiting ((run_in w).link x z)) b lo in
      omega (arith, f, so, u, next, count_is hi e)

pub overflow_add-end : goal.overflow_add-end
overflow_add-end c = omega (arith, (ready_sizes c.args.area.ready).0)

pub count_of-held-requires : goal.count_of-held-requires
count_of-held-requires c = omega (arith, ready_sizes c.args.area.ready)

pub ranked_in-first-requires : goal.ranked_in-first-requires
ranked_in-first-requires c = omega (arith, ready_sizes c.args.area.ready)

-- the inner loop is never gone through again: a message waits where it begins
pub loop-from-preserved : goal.loop-from-preserved
loop-from-preserved c =
    let l = c.scan in
    let found = here c.args.area.ready c.requires.remembers c.args.place l.to l.left l.invariant.0 l.invariant.2 c.scan-test.true c.count_of-held.ensures
    c.if-left-held.true c.ranked_in-first.ensures in
    let e = sym c.is_waiting_at.ensures ∙ c.if-is_waiting_at.false in
    absurd (false≢true (sym e ∙ ap (λ (x : ℕ). waiting ((run_in c.args.area.words.now).link x l.to)) c.loop-from.invariant.0 ∙ found.waits))

pub scan-preserved : goal.scan-preserved
scan-preserved c =
    let l = c.scan in
    elim c.if-left-held.branch [
      | then-left-held+else-loop-from-test w ↦
          let found = here c.args.area.ready c.requires.remembers c.args.place l.to l.left l.invariant.0 l.invariant.2 c.scan-test.true c.count_of-held.ensures
          w.if-left-held.true w.ranked_in-first.ensures in
          absurd (omega (arith, found.from_in, w.loop-from.invariant.0, w.loop-from-test.false, ready_n c.args.area.ready))
      | else-left-held w ↦ (
        omega arith,
        w.found-is ∙ l.invariant.1,
        passed_over c.args.area.ready c.requires.remembers c.args.place l.to l.left l.invariant.0 l.invariant.2 c.scan-test.true c.count_of-held.ensures
            w.if-left-held.false w.left-is,
      )
    ]

pub returns-after-scan : goal.returns-after-scan
returns-after-scan c =
    let l = c.scan in
    l.invariant.1 ∙ none c.args.area.ready c.requires.remembers c.args.place l.to l.left l.invariant.0 l.invariant.2 c.scan-test.false

pub returns-then-is_waiting_at : goal.returns-then-is_waiting_at
returns-then-is_waiting_at c =
    let l = c.scan in
    let found = here c.args.area.ready c.requires.remembers c.args.place l.to l.left l.invariant.0 l.invariant.2 c.scan-test.true c.count_of-held.ensures
    c.if-left-held.true c.ranked_in-first.ensures in
    rw (c.loop-from.invariant.0, found.is)
