-- The steps that are still to come, by what the next of them answers.
--   Leads R first f k   == however the steps from f and k on end, so end all steps, from `first` and 1 on
-- Assumes nothing.
use Rattle.std.proofs.Common.{◌≡◌, ℕ, ◌+◌, ◌<◌, ◌^◌, Bool, true, false, Result, Ok, Err, subst, sym}
use Rattle.std.specs.Prelude.{⊤}
use Rattle.streams.specs.Cases.{StepsTaken, stopped, failed, went_on, numbers_used}

abbrev pub Leads : {F E : Type 0} → (F → ℕ → Result Bool E → F → Type 0) → F → F → ℕ → Type 0
Leads R first f k = (x : _) → StepsTaken R f k x → StepsTaken R first 1 x

module _ {F E : Type 0} (R : F → ℕ → Result Bool E → F → Type 0) (first f g : F) (k : ℕ) (r : Result Bool E) where
  pub at_the_last : R f k r g → Leads R first f k → k < 2 ^ 64 → r ≡ Ok false → StepsTaken R first 1 (Ok tt)
  at_the_last p so h e = so _ (stopped h (subst (λ r. R f k r g) e p))

  pub by_one_more : R f k r g → Leads R first f k → k < 2 ^ 64 → r ≡ Ok true → Leads R first g (k + 1)
  by_one_more p so h e x rest = so x (went_on h (subst (λ r. R f k r g) e p) rest)

  pub at_the_end : R f k r g → Leads R first f k → k < 2 ^ 64 → r ≡ Ok true → k + 1 ≡ 2 ^ 64 → StepsTaken R first 1 (Ok tt)
  at_the_end p so h e l = by_one_more p so h e _ (numbers_used l)

module _ {F E : Type 0} (R : F → ℕ → Result Bool E → F → Type 0) (first f : F) (e : E) (g : F) (k : ℕ) (r : Result Bool E) where
  pub at_a_failure : R f k r g → Leads R first f k → k < 2 ^ 64 → r ≡ Err e → (x : Result ⊤ E) → x ≡ Err e → StepsTaken R first 1 x
  at_a_failure p so h is x told = subst (λ x. StepsTaken R first 1 x) (sym told) (so _ (failed h (subst (λ r. R f k r g) is p)))
