-- The layout fills an area.
--   area_length_filled   == the words of an area end where the links of its last arc do
-- Assumes nothing.
use Rattle.std.specs.Prelude.{ℕ, ◌+◌, ◌≡◌}
use Rattle.std.proofs.Common.{arith}
use Rattle.areas.specs.Places.{link_start, area_length}

pub area_length_filled : (n m : ℕ) → area_length n m ≡ link_start n m (m + 1)
area_length_filled n m = omega arith
