-- A part of an area, word by word.
--   part_at     == word k of the n words from word a on
-- Assumes nothing.
use Rattle.std.proofs.Common.{ℕ, ◌+◌, ◌<◌, List, ◌≡◌, ◌∙◌, arith, ℤ, pos, length, get_or, take, drop, length-take, get_or-take, get_or-drop}

pub part_at : (w : List ℤ) (a n k : ℕ) → k < length (take n (drop a w))
    → (k < n) × (get_or (take n (drop a w)) k (pos 0) ≡ get_or w (a + k) (pos 0))
part_at w a n k u =
    let v : k < n = omega (arith, u, length-take n (drop a w)) in
    (v, get_or-take n (drop a w) k (pos 0) v ∙ get_or-drop a w k (pos 0))
