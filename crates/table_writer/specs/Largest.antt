-- A list of pairs for any M, for the largest tables ("N 128 passes, and so do M 0 and M 512"): 1-1, 1-2, 1-3, 1-4, 2-1, 2-2 and so on. With 512
-- pairs it needs all of 128 processes.
--   grid m         == the first m of these pairs, as the writer takes them
--   TableOf n m    == there is an accepted table with N n and M m
-- Assumes nothing.
use Rattle.std.specs.Prelude.{ℕ, zero, suc, ◌+◌, ◌/◌, ◌%◌, List, [], ◌∷◌, ◌++◌, ◌≡◌}
use Rattle.tables.specs.Table.{field_of, n_of, m_of}
use Rattle.tables.specs.Layout.{MeetsLayout}

unfoldable pub grid : ℕ → List ℕ
grid zero = []
grid (suc k) = grid k ++ ((k / 4 + 1) ∷ (k % 4 + 1) ∷ [])

-- an accepted table with this N and this M
pub record TableOf (n m : ℕ) : Type 0 where
  pub bytes : List ℕ
  pub accepted : MeetsLayout bytes
  pub n_is : n_of (field_of bytes) ≡ n
  pub m_is : m_of (field_of bytes) ≡ m
