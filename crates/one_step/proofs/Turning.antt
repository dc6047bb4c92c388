-- The rules of a step: what their callers need of them, and how they are put together.
--   lent                        == the parts of what is lent in range
--   rule1_num, rule1_second, rule1_ready   == rule 1 leaves num as it is, a second sum in range, and a sum and flags that rule 3 can compute with
--   set_succeeding_ready, set_preceding_ready   == so does rule 2
--   acknowledgeable             == an acknowledgement in range finds sums and a num that it can change
--   settled_answer              == where num suffices, settled answers as 01 says: 22, or the step
--   stepped_short, stepped_settled   == the step of what is in range, from a process: 22 where num does not suffice, else what settled answers
-- Assumes nothing.
use Prim.Native.Nat.{ℕ, ◌≤◌}
use mathlib.Core.Bool.{Bool, true, false, not, ◌&&◌}
use mathlib.Core.Path.{◌≡◌, refl, ◌∙◌}
use native.Mathlib.Omega.{arith}
use lib.Dec.{leb}
use lib.IntN.{nat_abs}
use borrow.Author.Tests.{leb-true, le-leb}
use Rattle.base.specs.Choice.{choose}
use Rattle.base.specs.ChoiceLaws.{same?, and_both, and_left, and_right}
use Rattle.base.specs.Checks.{Same, same, apart}
use Rattle.tables.specs.Table.{most_processes, IsProcess}
use Rattle.steps.specs.declared.Message.{Message}
use Rattle.steps.specs.declared.Message.TheVariants.{Ack}
use Rattle.steps.specs.declared.Process.{Process}
use Rattle.steps.specs.declared.TwoCounts.{TwoCounts}
use Rattle.std.specs.Prelude.{Result, Err}
use Rattle.refusals.specs.declared.Refusal.{Refusal}
use Rattle.refusals.specs.declared.Refusal.TheVariants.{OutOfRange}
use Rattle.refusals.specs.Numbers.{answered}
use Rattle.steps.specs.Step.{Turn, small, in_range, count_small, lent_in_range, num_suffices, fitting}
use Rattle.steps.specs.Step.{most_count, both_small, sums_of, rule1, set_succeeding, set_preceding, turn, stepped}
use Rattle.steps.specs.Effect.{RecordInRange}
use Rattle.steps.specs.StepLaws.{in_range_P, stepped_inside}
use Rattle.rules.specs.Within.{Addable}
use Rattle.one_step.specs.Within.{settled}

-- the parts of a conjunction of five
and_five : (a b c d e : Bool) → (a && b && c && d && e) ≡ true → (a ≡ true) × (b ≡ true) × (c ≡ true) × (d ≡ true) × (e ≡ true)
and_five a b c d e h =
    let abcd : (a && b && c && d) ≡ true = and_left (a && b && c && d) e h in
    let abc : (a && b && c) ≡ true = and_left (a && b && c) d abcd in
    let ab : (a && b) ≡ true = and_left (a && b) c abc in
    (and_left a b ab, and_right a b ab, and_right (a && b) c abc, and_right (a && b && c) d abcd, and_right (a && b && c && d) e h)

pub record Lent (m : Message) (o i : ℕ) (x : Process) : Type 0 where
  pub process : in_range x ≡ true
  pub count : count_small m ≡ true
  pub out : o ≤ most_processes
  pub into : i ≤ most_processes

pub lent : (m : Message) (o i : ℕ) (x : Process) → lent_in_range m o i x ≡ true → Lent m o i x
unfolding lent_in_range
lent m o i x e =
    let h = and_five (in_range x) (leb x.father most_processes) (count_small m) (leb o most_processes) (leb i most_processes) e in
    record { process = h.0; count = h.2; out = leb-true o most_processes h.3; into = leb-true i most_processes h.4 }

pub rule1_num : (p : ℕ) (x : Process) → (rule1 p x).process.num ≡ x.num
unfolding rule1
rule1_num p x = at (same? x.num 0)
  where
    at : Same x.num 0 → (rule1 p x).process.num ≡ x.num
    at (same _ f) = rw f
    at (apart _ f) = rw f

pub rule1_second : (p : ℕ) (x : Process) → in_range x ≡ true → small (rule1 p x).process.second ≡ true
unfolding rule1 small
rule1_second p x e = at (same? x.num 0)
  where
    at : Same x.num 0 → small (rule1 p x).process.second ≡ true
    at (same _ f) = rw f (le-leb (nat_abs x.second) most_count (in_range_P x e).second)
    at (apart _ f) = rw f

-- what rule 3 asks of a record: a sum that it can add to, and two flags
abbrev Ready : Process → Type 0
Ready x = Addable x × ((x.succeeding ≤ 1) × (x.preceding ≤ 1))

pub rule1_ready : (p : ℕ) (x : Process) → in_range x ≡ true → Ready (rule1 p x).process
unfolding rule1 small
rule1_ready p x e = at (same? x.num 0)
  where
    h : RecordInRange x
    h = in_range_P x e

    at : Same x.num 0 → Ready (rule1 p x).process
    at (same _ f) = rw f (record { flag = h.subordinate; count = le-leb (nat_abs x.cs) most_count h.cs }, (h.succeeding, h.preceding))
    at (apart _ f) = rw f (record { flag = h.subordinate; count = refl }, (h.succeeding, h.preceding))

pub set_succeeding_ready : (o : ℕ) (t : Turn) → Ready t.process → Ready (set_succeeding o t).process
unfolding set_succeeding
set_succeeding_ready o t h = at (same? t.process.succeeding 0)
  where
    at : Same t.process.succeeding 0 → Ready (set_succeeding o t).process
    at (same _ f) = rw f (record { flag = h.0.flag; count = h.0.count }, (omega arith, h.1.1))
    at (apart _ f) = rw f h

pub set_preceding_ready : (i : ℕ) (t : Turn) → Ready t.process → Ready (set_preceding i t).process
unfolding set_preceding
set_preceding_ready i t h = at (same? t.process.preceding 0)
  where
    at : Same t.process.preceding 0 → Ready (set_preceding i t).process
    at (same _ f) = rw f (record { flag = h.0.flag; count = h.0.count }, (h.1.0, omega arith))
    at (apart _ f) = rw f h

-- what an acknowledgement asks of the record and of its counts
pub acknowledgeable : (m : Message) (c : TwoCounts) (x : Process) → m ≡ Ack c → in_range x ≡ true → count_small m ≡ true → num_suffices m x ≡ true
    → (both_small c ≡ true) × ((both_small (sums_of x) ≡ true) × (1 ≤ x.num))
unfolding count_small num_suffices both_small small
acknowledgeable m c x e r s n =
    let few : leb 1 x.num ≡ true = rw e at n in
    let h = in_range_P x r in (
      rw e at s,
      (and_both _ _ (le-leb (nat_abs x.cs) most_count h.cs) (le-leb (nat_abs x.second) most_count h.second), leb-true 1 x.num few),
    )

pub settled_answer : (m : Message) (x : Process) (t : Turn) {u : Turn} {r : Result Turn Refusal} → r ≡ settled u → u ≡ t → num_suffices m x ≡ true
    → r ≡ answered (choose (not (fitting m x t)) 22 0) t
unfolding settled fitting
settled_answer m x t p q e = p ∙ rw (q, e)

-- neither 21 nor 25 is met
module _ (m : Message) (o i p : ℕ) (x : Process) (r : lent_in_range m o i x ≡ true) (q : IsProcess most_processes p) where
  inside : stepped m o i p x ≡ answered (choose (not (fitting m x (turn m o i p x))) 22 0) (turn m o i p x)
  inside = stepped_inside m o i p x r (λ e. absurd (omega (arith, q))) q.1

  pub stepped_short : num_suffices m x ≡ false → Err OutOfRange ≡ stepped m o i p x
  unfolding fitting
  stepped_short e = rw (inside, e)

  pub stepped_settled : {u : Turn} {s : Result Turn Refusal} → s ≡ settled u → u ≡ turn m o i p x → num_suffices m x ≡ true → s ≡ stepped m o i p x
  stepped_settled a b e = rw inside (settled_answer m x (turn m o i p x) a b e)
