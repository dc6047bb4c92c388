-- The states of a shuffled run (02, N13): "the state is xored with itself shifted left 13, then right 17, then left 5 (Marsaglia's
-- xorshift32), dropping bits past 32".
--   width                        == 32
--   shifted_left k x, shifted_right k x   == x shifted by k bits, "dropping bits past 32"
--   moved_on x                    == the state after x
-- Assumes nothing.
use Rattle.std.specs.Prelude.{ℕ, ◌*◌, ◌/◌, ◌%◌, ◌^◌}
use Rattle.std.specs.Int.Bits.{bit_xor}

abbrev pub width : ℕ
width = 32

-- "dropping bits past 32"
abbrev pub shifted_left : ℕ → ℕ → ℕ
shifted_left k x = x * 2 ^ k % 2 ^ width

abbrev pub shifted_right : ℕ → ℕ → ℕ
shifted_right k x = x / 2 ^ k

-- "xored with itself shifted left", and "right"
abbrev pub xored_left : ℕ → ℕ → ℕ
xored_left k x = bit_xor x (shifted_left k x)

abbrev pub xored_right : ℕ → ℕ → ℕ
xored_right k x = bit_xor x (shifted_right k x)

-- "shifted left 13, then right 17, then left 5"
unfoldable pub moved_on : ℕ → ℕ
moved_on x = xored_left 5 (xored_right 17 (xored_left 13 x))
