-- The flags of all processes are tidy from the start on.
--   tidy_start      == start leaves the flags tidy
--   tidy_kept       == every delivery keeps them so
-- Assumes nothing.
use Rattle.std.specs.Prelude.{ℕ, ◌+◌, ◌≤◌, ◌≡◌, refl, eqb}
use Rattle.std.proofs.Common.{arith}
use Rattle.tables.specs.Waits.{Waits}
use Rattle.tables.specs.Table.{IsProcess}
use Rattle.machine.specs.Machine.{Left}
use Rattle.machine.specs.Moved.{Moved}
use Rattle.machine.specs.MovedLaws.{moved_at, start_at, start_own}
use Rattle.steps.specs.declared.Message.{Message}
use Rattle.steps.specs.declared.Process.{Process}
use Rattle.steps.specs.Step.{Turn, new_subordinate}
use Rattle.steps.specs.Effect.{sucs_of, pres_of, Effect}
use Rattle.checks.specs.Run.{Run, knot, started, start_run, leaving}
use Rattle.ending.specs.Invariants.{Tidy}

module _ {w : Waits} {r q : Run} {a b : ℕ} {m : Message} {t : Left Process Message} (mv : Moved w r a b m t q) where
  -- a flag that the start has is not taken from it
  flag_kept : (s : ℕ) (flag : Process → ℕ) (more : ℕ) → flag t.process ≡ flag (r.process b) + more → flag t.process ≤ 1 → flag (r.process s) ≡ 1
      → flag (q.process s) ≡ 1
  flag_kept s flag more e l own = moved_at mv (λ i x. i ≡ s → flag x ≡ 1) (λ f. let old : flag (r.process b) ≡ 1 = rw f own in omega arith) s (λ _. own) refl

pub tidy_start : {w : Waits} {s : ℕ} (ed : ℕ) → IsProcess w.n s → Tidy w s (start_run w s ed)
unfolding started new_subordinate
tidy_start {w} {s} ed sIn =
    record {
      start_is_in = sIn;
      succ_bit = λ i _. start_at knot w s ed (λ x. x.succeeding ≤ 1) (omega arith) (omega arith) i;
      prec_bit = λ i _. start_at knot w s ed (λ x. x.preceding ≤ 1) (omega arith) (omega arith) i;
      sub_is = λ i _. start_at knot w s ed (λ x. x.subordinate ≡ new_subordinate x) refl refl i;
      start_succ = rw (start_own knot w s ed);
      start_prec = rw (start_own knot w s ed);
    }

pub tidy_kept : {w : Waits} {s : ℕ} {r q : Run} {a b : ℕ} {m : Message} {t : Turn} {o i : ℕ} → Tidy w s r → IsProcess w.n b
    → Moved w r a b m (leaving w b t) q → Effect (eqb b s) m o i a (r.process b) t → Tidy w s q
tidy_kept {w} {s} {r} {q} {a} {b} {m} {t} td bIn mv ef =
    record {
      start_is_in = td.start_is_in;
      succ_bit = λ i iIn. moved_at mv (λ _ x. x.succeeding ≤ 1) ef.succ_bit i (td.succ_bit i iIn);
      prec_bit = λ i iIn. moved_at mv (λ _ x. x.preceding ≤ 1) ef.prec_bit i (td.prec_bit i iIn);
      sub_is = λ i iIn. moved_at mv (λ _ x. x.subordinate ≡ new_subordinate x) ef.sub_is i (td.sub_is i iIn);
      start_succ = flag_kept mv s (λ x. x.succeeding) (sucs_of t) ef.succeeding ef.succ_bit td.start_succ;
      start_prec = flag_kept mv s (λ x. x.preceding) (pres_of t) ef.preceding ef.prec_bit td.start_prec;
    }
