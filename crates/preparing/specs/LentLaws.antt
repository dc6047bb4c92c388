-- What the receiver's step is lent is in range.
--   out_degree_most, in_degree_most   == a degree is at most N
--   lent                  == the record of a process in a well-formed run and its degrees are in range
-- Assumes nothing.
use Rattle.std.specs.Prelude.{ℕ, ◌≤◌, true, ◌&&◌, ◌≡◌, leb}
use Rattle.std.proofs.Common.{arith, le-leb}
use Rattle.base.specs.ChoiceLaws.{and_both}
use Rattle.base.specs.SumLaws.{count_to_most}
use Rattle.tables.specs.Table.{most_processes, IsProcess}
use Rattle.tables.specs.Waits.{Waits, out_degree, in_degree}
use Rattle.tables.specs.Sound.{Sound}
use Rattle.steps.specs.declared.Message.{Message}
use Rattle.steps.specs.Step.{in_range, count_small, lent_in_range}
use Rattle.machine.specs.FormedLaws.{well_formed_P}
use Rattle.checks.specs.RunLaws.{formed_range, formed_father}
use Rattle.checks.specs.Run.{Run, knot, well_formed}
use Rattle.lenses.specs.ChangeLaws.{father_few}

pub out_degree_most : (w : Waits) (p : ℕ) → out_degree w p ≤ w.n
unfolding out_degree
out_degree_most w p = count_to_most w.n (λ q. w.waits p q)

pub in_degree_most : (w : Waits) (p : ℕ) → in_degree w p ≤ w.n
unfolding in_degree
in_degree_most w p = count_to_most w.n (λ q. w.waits q p)

-- the record, the degrees and the counts are in range, so that the step does not meet 21
pub lent : (r : Run) → well_formed r ≡ true → Sound r.waits → (b : ℕ) → IsProcess r.waits.n b → (m : Message) → count_small m ≡ true
    → lent_in_range m (out_degree r.waits b) (in_degree r.waits b) (r.process b) ≡ true
unfolding lent_in_range
lent r h sd b e m c =
    let x = r.process b in
    let o = out_degree r.waits b in
    let i = in_degree r.waits b in
    and_both (in_range x && leb x.father most_processes && count_small m && leb o most_processes) (leb i most_processes)
    (and_both (in_range x && leb x.father most_processes && count_small m) (leb o most_processes)
    (and_both (in_range x && leb x.father most_processes) (count_small m)
    (and_both (in_range x) (leb x.father most_processes) (formed_range ((well_formed_P knot r).0 h) b e)
    (le-leb x.father most_processes (father_few r.waits sd b x (formed_father ((well_formed_P knot r).0 h) b e))))
    c)
    (le-leb o most_processes (omega (arith, out_degree_most r.waits b, sd.few))))
    (le-leb i most_processes (omega (arith, in_degree_most r.waits b, sd.few)))
