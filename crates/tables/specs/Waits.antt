-- The waits that an accepted table holds: what all later work cites.
--   Waits                == N, and the relation "from waits for to"
--   waits_of t            == the waits of a table
--   out_degree, in_degree  == how many processes p waits for, and how many wait for p
--   neighbours           == "Two processes are neighbours if an arc joins them either way; a process with a loop is its own neighbour."
-- Assumes nothing.
use Rattle.std.specs.Prelude.{ℕ, Bool, ◌||◌}
use Rattle.base.specs.Sums.{count_to, any_to}
use Rattle.tables.specs.Table.{Fields, n_of, m_of, says_wait}

-- N, and which process waits for which
pub record Waits : Type 0 where
  pub n : ℕ
  pub waits : ℕ → ℕ → Bool

-- "An arc says that *from* waits for *to*": some arc of 1 to M has these ends
unfoldable pub waits_of : Fields → Waits
waits_of t = record { n = n_of t; waits = λ a b. any_to (m_of t) (says_wait t a b) }

-- how many successors p has
unfoldable pub out_degree : Waits → ℕ → ℕ
out_degree w p = count_to w.n (λ q. w.waits p q)

-- how many predecessors p has
unfoldable pub in_degree : Waits → ℕ → ℕ
in_degree w p = count_to w.n (λ q. w.waits q p)

-- "Two processes are neighbours if an arc joins them either way"
unfoldable pub neighbours : Waits → ℕ → ℕ → Bool
neighbours w a b = w.waits a b || w.waits b a
