-- Laws of the pairs that were seen.
--   seen_none, seen_next   == before the first pair; after one more
--   seen_cell              == what the cell of the next pair says of those before it
-- Assumes nothing.
use Rattle.std.specs.Prelude.{ℕ, ◌+◌, ◌*◌, ◌≤◌, Bool, ◌&&◌, List, ◌≡◌, eqb, get_or, set, replicate}
use Rattle.std.proofs.Math.Bool.{true, false, or-false}
use Rattle.std.proofs.Math.Path.{sym}
use Rattle.std.proofs.Common.{◌∙◌, eq-eqb, arith, get_or-set_same}
use Rattle.std.proofs.Math.ListN.{length-set}
use Rattle.std.proofs.lemmas.List.{length-replicate, get_or-replicate}
use Rattle.std.proofs.Math.Seq.{get_or-set_other}
use Rattle.base.specs.ChoiceLaws.{same?, and_both, or_right}
use Rattle.base.specs.Checks.{Same, same, apart}
use Rattle.base.specs.Sums.{any_to}
use Rattle.base.specs.PrefixLaws.{any_to_none, any_to_next}
use Rattle.tables.specs.Table.{most_processes}
use Rattle.tables.specs.Pairs.{square_side, square_size, Seen}

pub seen_none : (from to : ℕ → ℕ) → Seen from to 0 (replicate square_size false)
seen_none from to = record {
  long = length-replicate square_size false;
  at = λ a b u v. get_or-replicate square_size (a * square_side + b) false false (omega arith) ∙ sym (any_to_none (λ j. eqb (from j) a && eqb (to j) b));
}

-- one more, with the ends x and y, whose cell is i
module _ (from to : ℕ → ℕ) (k x y i : ℕ) (cells : List Bool) (small-x : x ≤ most_processes) (small-y : y ≤ most_processes) (is_x : x ≡ from (k + 1))
    (is_y : y ≡ to (k + 1)) (cell : i ≡ x * square_side + y) (m : Seen from to k cells) where
  ends : ℕ → ℕ → ℕ → Bool
  ends a b j = eqb (from j) a && eqb (to j) b

  this : ends x y (k + 1) ≡ true
  unfolding ends
  this = and_both (eqb (from (k + 1)) x) (eqb (to (k + 1)) y) (eq-eqb (from (k + 1)) x (sym is_x)) (eq-eqb (to (k + 1)) y (sym is_y))

  more : (a b : ℕ) → b ≤ most_processes → Same x a → Same y b → get_or cells (a * square_side + b) false ≡ any_to k (ends a b)
      → get_or (set cells i true) (a * square_side + b) false ≡ any_to (k + 1) (ends a b)
  unfolding ends
  more a b v (same e _) (same f _) old =
      rw (← e, ← f, ← cell) (get_or-set_same cells i true false (omega (arith, m.long))
      ∙ sym (any_to_next k (ends x y) ∙ or_right (any_to k (ends x y)) (ends x y (k + 1)) this))
  more a b v (same e h) (apart f g) old =
      get_or-set_other cells i (a * square_side + b) true false (omega arith) ∙ old
      ∙ sym (any_to_next k (ends a b) ∙ rw (← is_x, ← is_y, h, g) (or-false (any_to k (ends a b))))
  more a b v (apart e h) _ old =
      get_or-set_other cells i (a * square_side + b) true false (omega arith) ∙ old
      ∙ sym (any_to_next k (ends a b) ∙ rw (← is_x, h) (or-false (any_to k (ends a b))))

  pub seen_next : Seen from to (k + 1) (set cells i true)
  unfolding ends
  seen_next = record { long = length-set cells i true ∙ m.long; at = λ a b u v. more a b v (same? x a) (same? y b) (m.at a b u v) }

  pub seen_cell : get_or cells i false ≡ any_to k (λ j. eqb (from j) (from (k + 1)) && eqb (to j) (to (k + 1)))
  seen_cell = rw (← is_x, ← is_y, cell) (m.at x y small-x small-y)
