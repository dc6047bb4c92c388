-- D as 01 words it.
--   d_of_arcs      == D over the arcs of the table by number
-- Assumes nothing.
use Rattle.std.specs.Prelude.{ℕ, ◌+◌, ◌*◌, Bool, true, false, ◌&&◌, ◌≡◌}
use Rattle.std.proofs.Common.{sym, ◌∙◌, arith}
use Rattle.base.specs.Choice.{bit}
use Rattle.base.specs.Sums.{sum_to, count_to}
use Rattle.base.specs.SumLaws.{sum_to_cong}
use Rattle.tables.specs.Table.{Fields, m_of, arc_at}
use Rattle.tables.specs.Layout.{Right}
use Rattle.tables.specs.Waits.{waits_of}
use Rattle.tables.specs.WaitsLaws.{waits_of_sum}
use Rattle.checks.specs.Reach.{reaches, d_of}

-- "D is twice the number of arcs whose from is reachable from the start plus twice the number whose to reaches it."
pub d_of_arcs : (t : Fields) → Right t → (s : ℕ)
    → d_of (waits_of t) s ≡ 2 * count_to (m_of t) (λ k. reaches (waits_of t) s (arc_at t k).from) + 2 * count_to (m_of t) (λ k. reaches (waits_of t) (arc_at t k).to s)
unfolding d_of count_to waits_of
d_of_arcs t h s =
    omega (arith, pairs (λ a b. reaches (waits_of t) s a), pairs (λ a b. reaches (waits_of t) b s))
  where
    both : (x y : Bool) → bit (x && y) ≡ bit x * bit y
    both true y = omega arith
    both false y = omega arith

    pairs : (g : ℕ → ℕ → Bool)
        → sum_to (waits_of t).n (λ a. sum_to (waits_of t).n (λ b. bit ((waits_of t).waits a b && g a b)))
        ≡ sum_to (m_of t) (λ k. bit (g (arc_at t k).from (arc_at t k).to))
    pairs g =
        sum_to_cong (waits_of t).n _ _ (λ a _ _. sum_to_cong (waits_of t).n _ _ (λ b _ _. both ((waits_of t).waits a b) (g a b))) ∙
        sym (waits_of_sum t h (λ a b. bit (g a b)))
