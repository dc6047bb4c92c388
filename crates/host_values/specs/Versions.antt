-- The version of the library. That of the layout of areas is knot_check (areas, Area), which every area holds (pickledune, LayoutLaws).
--   version_number a b c   == the version a.b.c as one number
--   library_version        == the version of this library, 1.0.0
-- Assumes nothing.
use Rattle.std.specs.Prelude.{ℕ, ◌+◌, ◌*◌}

-- two digits each for the last two parts
abbrev pub version_number : ℕ → ℕ → ℕ → ℕ
version_number a b c = 10000 * a + 100 * b + c

abbrev pub library_version : ℕ
library_version = version_number 1 0 0
