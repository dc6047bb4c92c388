-- What an accepted table says of its waits, for those who prove.
--   arc_count w           == how many waits there are
--   Sound w              == N and M are in range, and each wait is between processes
-- Assumes nothing.
use Rattle.std.specs.Prelude.{ℕ, ◌≤◌, true, ◌≡◌}
use Rattle.base.specs.Sums.{sum_to}
use Rattle.tables.specs.Table.{most_processes, most_arcs}
use Rattle.tables.specs.Waits.{Waits, out_degree}

-- how many waits there are: as many as arcs, since "No two arcs agree in both from and to"
unfoldable pub arc_count : Waits → ℕ
arc_count w = sum_to w.n (λ a. out_degree w a)

-- what an accepted table says of its waits: "N (processes, 1 to 128) and M (arcs, 0 to 512)", and each wait is between processes
pub record Sound (w : Waits) : Type 0 where
  pub some : 1 ≤ w.n
  pub few : w.n ≤ most_processes
  pub from_low : (a b : ℕ) → w.waits a b ≡ true → 1 ≤ a
  pub from_high : (a b : ℕ) → w.waits a b ≡ true → a ≤ w.n
  pub to_low : (a b : ℕ) → w.waits a b ≡ true → 1 ≤ b
  pub to_high : (a b : ℕ) → w.waits a b ≡ true → b ≤ w.n
  pub arcs : arc_count w ≤ most_arcs
