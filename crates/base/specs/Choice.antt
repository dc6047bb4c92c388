-- Choice by a test.
--   choose b x y   == x if the test b passed, y if not
--   bit b          == 1 if the test b passed, 0 if not
-- Assumes nothing.
use Rattle.std.specs.Prelude.{ℕ, Bool, true, false}

module _ {ℓ} {A : Type ℓ} where
  abbrev pub choose : Bool → A → A → A
  choose true x y = x
  choose false x y = y

abbrev pub bit : Bool → ℕ
bit true = 1
bit false = 0
