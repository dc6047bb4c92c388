-- Laws of counting a row of tests.
--   count_cong, count_more   == the same pass a test; one passes that did not
--   count_none               == where none is counted none passes
-- Assumes nothing.
use Rattle.std.specs.Prelude.{ℕ, ◌+◌, ◌≤◌, Bool, true, false, ◌≡◌}
use Rattle.std.proofs.Math.Path.{refl, ap}
use Rattle.std.proofs.Common.{◌∙◌, arith}
use Rattle.base.specs.Choice.{bit}
use Rattle.base.specs.ChoiceLaws.{same?}
use Rattle.base.specs.Checks.{Same, same, apart}
use Rattle.base.specs.Sums.{sum_to, count_to, spot}
use Rattle.base.specs.SumLaws.{spot_at, spot_off, sum_to_cong, sum_to_add, sum_to_spot, sum_to_parts}
use Rattle.tables.specs.Table.{IsProcess}

module _ (n : ℕ) (f g : ℕ → Bool) where
  pub count_cong : ((k : ℕ) → 1 ≤ k → k ≤ n → f k ≡ g k) → count_to n f ≡ count_to n g
  unfolding count_to
  count_cong h = sum_to_cong n (λ k. bit (f k)) (λ k. bit (g k)) (λ k l u. ap bit (h k l u))

  -- one passes that did not
  pub count_more : (j : ℕ) → IsProcess n j → f j ≡ false → g j ≡ true → ((k : ℕ) → (k ≡ j → ⊥) → f k ≡ g k) → count_to n g ≡ count_to n f + 1
  unfolding count_to
  count_more j i e t h =
      sum_to_cong n (λ k. bit (g k)) (λ k. bit (f k) + spot j 1 k) (λ k l u. at k (same? k j)) ∙ sum_to_add n (λ k. bit (f k)) (spot j 1)
      ∙ ap (λ (x : ℕ). sum_to n (λ k. bit (f k)) + x) (sum_to_spot n j 1 i.0 i.1)
    where
      at : (k : ℕ) → Same k j → bit (g k) ≡ bit (f k) + spot j 1 k
      at k (same q _) = rw (q, e, t, spot_at j 1) refl
      at k (apart q _) = rw (h k q, spot_off j 1 k q) (omega arith)

pub count_none : (n : ℕ) (f : ℕ → Bool) → count_to n f ≡ 0 → (k : ℕ) → IsProcess n k → f k ≡ false
unfolding count_to
count_none n f e k i = at (f k) (sum_to_parts n (λ j. bit (f j)) e k i.0 i.1)
  where
    at : (b : Bool) → bit b ≡ 0 → b ≡ false
    at true z = absurd (omega arith)
    at false z = refl
