-- Sums and counts: the start gives them, and every accepted delivery keeps them. Both tallies (Weights) go by the same two laws.
--   summed_start           == the run at the start is Summed by a tally that Begins
--   subordinates_begin, waitless_begin   == both tallies do
--   summed_kept            == a delivery whose step is Tallied keeps Summed
--   subordinates_tallied   == every step is, by cs; by the second sum it is what Effect says
-- Assumes nothing.
use Rattle.std.specs.Prelude.{ℕ, ◌+◌, Bool, true, false, [], ◌++◌, ◌≡◌, eqb, ℤ, pos}
use Rattle.std.proofs.Math.Path.{refl}
use Rattle.std.proofs.Common.{ap, ◌∙◌, ne_eqb}
use native.Mathlib.Omega.{arith}
use Rattle.base.specs.Choice.{choose}
use Rattle.base.specs.ChoiceLaws.{same?}
use Rattle.base.specs.Checks.{Same, same, apart}
use Rattle.base.specs.SumLaws.{sum_to_cong, sum_to_zero}
use Rattle.base.specs.Parts.{above, below}
use Rattle.tables.specs.Waits.{Waits}
use Rattle.tables.specs.Table.{IsProcess}
use Rattle.machine.specs.Machine as Machines
use Rattle.machine.specs.Weights.{weight, total, sum_of}
use Rattle.machine.specs.Moved.{Moved}
use Rattle.machine.specs.MovedLaws.{sum_of_moved, sum_moved, total_moved, start_at}
use Rattle.steps.specs.declared.Message.{Message}
use Rattle.steps.specs.declared.Message.TheVariants.{Suc, Pre}
use Rattle.steps.specs.Step.{Turn, idle, no_counts}
use Rattle.steps.specs.Effect.{both, counts_replied, Effect}
use Rattle.checks.specs.Run.{Run, knot, one, started, start_run, leaving}
use Rattle.checks.specs.SentLaws.{first_weight, sum_count}
use Rattle.ending.specs.Weights.{Tally, subordinates, waitless, sum_in, count_in, worth_of, slack_of, Begins, Tallied, both_off, Diffuses}
use Rattle.ending.specs.Invariants.{Tidy, Summed}
use Rattle.ending.specs.CountingLaws.{acknowledged_in}

-- ---- the start

-- a weight that no probe has is nowhere at the start
start_total : (w : Waits) (s ed : ℕ) (μ : Message → ℕ) → μ Suc ≡ 0 → μ Pre ≡ 0 → total w.n μ (start_run w s ed) ≡ 0
unfolding total Machines.start_run weight
start_total w s ed μ e e' = sum_to_zero w.n _ (λ a _ _. sum_to_zero w.n _ (λ b _ _. at a b (eqb a s)))
  where
    at : (a b : ℕ) (c : Bool) → weight μ (choose c (one (w.waits s b) Suc ++ one (w.waits b s) Pre) []) ≡ 0
    at a b true = first_weight μ (w.waits s b) (w.waits b s) ∙ rw (e, e') (omega arith)
    at a b false = refl

module _ (w : Waits) (s ed : ℕ) (τ : Tally) (h : Begins w s τ) where
  rest : (j : ℕ) → (j ≡ s → ⊥) → sum_in τ ((start_run w s ed).process j) ≡ pos 0
  unfolding Machines.start_run
  rest j d = rw (ne_eqb j s d) h.none

  totals : (g : ℤ → ℕ) → g (pos 0) ≡ 0 → total w.n (λ m. g (count_in τ m)) (start_run w s ed) ≡ 0
  totals g z = start_total w s ed (λ m. g (count_in τ m)) (ap g h.none ∙ z) (ap g h.none ∙ z)

  sums : sum_of w.n (λ x. above (sum_in τ x)) (start_run w s ed) ≡ worth_of τ w (start_run w s ed)
  unfolding sum_of worth_of Machines.start_run
  sums = sum_to_cong w.n _ _ (λ i _ _. at i (same? i s))
    where
      at : (i : ℕ) → Same i s → above (sum_in τ (choose (eqb i s) (started w s) idle)) ≡ τ.worth i (choose (eqb i s) (started w s) idle)
      at i (same e f) = rw (f, e) h.own
      at i (apart e f) = rw f (ap above h.none ∙ rw (h.others i))

  belows : sum_of w.n (λ x. below (sum_in τ x)) (start_run w s ed) ≡ 0
  unfolding sum_of
  belows =
      sum_to_zero w.n (λ p. below (sum_in τ ((start_run w s ed).process p)))
      (λ p _ _. start_at knot w s ed (λ x. below (sum_in τ x) ≡ 0) h.own_below (ap below h.none) p)

  pub summed_start : Summed w s τ (start_run w s ed)
  summed_start =
      record {
        balance = omega (arith, sums, belows, totals above refl, totals below refl);
        at_rest = λ j _ d _. rest j d;
        falls = omega (arith, belows, totals below refl);
      }

pub subordinates_begin : (w : Waits) (s : ℕ) → Begins w s (subordinates s)
unfolding started
subordinates_begin w s = record { none = refl; own = refl; own_below = refl; others = λ i. refl }

-- 02, N3: "the start adds its own at once"
pub waitless_begin : (w : Waits) (s : ℕ) → Begins w s (waitless w)
unfolding started
waitless_begin w s = record { none = refl; own = omega arith; own_below = refl; others = λ i. omega arith }

-- ---- a delivery

module _ {w : Waits} {s : ℕ} {r q : Run} {a b : ℕ} {m : Message} {t : Turn} {o i : ℕ} (diffusing : Diffuses w s r) (pa : IsProcess w.n a)
    (pb : IsProcess w.n b) (moved : Moved w r a b m (leaving w b t) q) (effect : Effect (eqb b s) m o i a (r.process b) t) (τ : Tally)
    (none : τ.part no_counts ≡ pos 0) (summed : Summed w s τ r) (tallied : Tallied τ b m (r.process b) t) where
  -- counts on links
  counts_moved : (g : ℤ → ℕ) → g (pos 0) ≡ 0
      → total w.n (λ n. g (count_in τ n)) q + g (count_in τ m) ≡ total w.n (λ n. g (count_in τ n)) r + g (τ.part (counts_replied t.sent.reply))
  counts_moved g e =
      omega (
        arith,
        total_moved moved pb.0 pb.1 pa.0 pa.1 (λ n. g (count_in τ n)),
        sum_count w b t (acknowledged_in diffusing pa pb effect) (λ c. g (τ.part c)) (ap g none ∙ e),
      )

  rest_kept : (j : ℕ) → Same j b → IsProcess w.n j → (j ≡ s → ⊥) → (q.process j).num ≡ 0 → sum_in τ (q.process j) ≡ pos 0
  rest_kept j (same e _) p d z =
      rw (e, moved.receiver) (ap τ.part (effect.at_rest (ne_eqb b s (λ f. d (e ∙ f))) (rw (e, moved.receiver) at z)) ∙ none)
  rest_kept j (apart e _) p d z = rw (moved.others j e) (summed.at_rest j p d (rw (moved.others j e) at z))

  pub summed_kept : Summed w s τ q
  unfolding worth_of slack_of
  summed_kept =
      record {
        balance =
            omega (
              arith,
              summed.balance,
              tallied.balance,
              sum_of_moved moved pb.0 pb.1 (λ x. above (sum_in τ x)),
              sum_of_moved moved pb.0 pb.1 (λ x. below (sum_in τ x)),
              sum_moved moved pb.0 pb.1 τ.worth,
              counts_moved above refl,
              counts_moved below refl,
            );
        at_rest = λ j. rest_kept j (same? j b);
        falls =
            omega (
              arith,
              summed.falls,
              tallied.falls,
              sum_of_moved moved pb.0 pb.1 (λ x. below (sum_in τ x)),
              counts_moved below refl,
              sum_moved moved pb.0 pb.1 τ.slack,
            );
      }

-- the start keeps both flags, which do not count there
pub subordinates_tallied : {w : Waits} {s : ℕ} {r : Run} {a b : ℕ} {m : Message} {t : Turn} {o i : ℕ} → Tidy w s r → IsProcess w.n b
    → Effect (eqb b s) m o i a (r.process b) t → Tallied (subordinates s) b m (r.process b) t
unfolding both_off
subordinates_tallied {w} {s} {r} {a} {b} {m} {t} tidy pb effect = at (same? b s)
  where
    start_both : b ≡ s → both t.process ≡ both (r.process b)
    start_both e = rw (flag, flag', old, old')
      where
        old : (r.process b).succeeding ≡ 1
        old = rw e tidy.start_succ

        old' : (r.process b).preceding ≡ 1
        old' = rw e tidy.start_prec

        flag : t.process.succeeding ≡ 1
        flag = omega (arith, old, effect.succeeding, effect.succ_bit)

        flag' : t.process.preceding ≡ 1
        flag' = omega (arith, old', effect.preceding, effect.prec_bit)

    at : Same b s → Tallied (subordinates s) b m (r.process b) t
    at (same e f) = record { balance = effect.sums.balance; falls = rw f (omega (arith, effect.sums.falls, start_both e)) }
    at (apart e f) = record { balance = effect.sums.balance; falls = rw f effect.sums.falls }
