-- Laws of one message of a link; those of places stand apart, in proofs/PlaceLaws.
--   among_weight, among_length, among_right   == what its list weighs, how long it is, and that all of it is right
--   among_waiting   == a list with a message is one on which something waits
--   between_among, between_place   == a message taken out of the middle is one of its list, and its place is one of 1 to their number
-- Assumes nothing.
use Prim.Native.Nat.{ℕ, suc, ◌+◌, ◌≤◌}
use Rattle.std.specs.Prelude.{Bool, true, ◌≡◌, length}
use mathlib.Core.List.{List, [], ◌∷◌, ◌++◌}
use Rattle.std.proofs.Math.Path.{refl}
use Rattle.std.proofs.Common.{length-append}
use native.Mathlib.Omega.{arith}
use Rattle.base.specs.ChoiceLaws.{and_left, and_right, and_both}
use Rattle.machine.specs.Machine.{all_right}
use Rattle.machine.specs.Calls.{waiting}
use Rattle.machine.specs.Weights.{weight}
use Rattle.machine.specs.Among.{Among, oldest, later, Between}

module _ {M : Type 0} {m : M} where
  pub among_weight : {rest ms : List M} → Among m rest ms → (μ : M → ℕ) → weight μ ms ≡ μ m + weight μ rest
  unfolding weight
  among_weight oldest μ = refl
  among_weight (later i) μ = omega (arith, among_weight i μ)

  pub among_length : {rest ms : List M} → Among m rest ms → length ms ≡ suc (length rest)
  among_length oldest = refl
  among_length (later i) = omega (arith, among_length i)

  pub among_waiting : {rest ms : List M} → Among m rest ms → waiting ms ≡ true
  among_waiting oldest = refl
  among_waiting (later i) = refl

  pub among_right : (p : M → Bool) {rest ms : List M} → Among m rest ms → all_right p ms ≡ true → (p m ≡ true) × (all_right p rest ≡ true)
  unfolding all_right
  among_right p {rest} oldest e = (and_left (p m) (all_right p rest) e, and_right (p m) (all_right p rest) e)
  among_right p (later {x} {rest} {ms} i) e =
      let h = among_right p i (and_right (p x) (all_right p ms) e) in
      (h.0, and_both (p x) (all_right p rest) (and_left (p x) (all_right p ms) e) h.1)

-- ---- places

module _ {M : Type 0} where
  among_middle : (front : List M) (m : M) (back : List M) → Among m (front ++ back) (front ++ (m ∷ back))
  among_middle [] m back = oldest
  among_middle (x ∷ front) m back = later (among_middle front m back)

  pub between_among : {k : ℕ} {ms : List M} {m : M} {rest : List M} → Between k ms m rest → Among m rest ms
  between_among {m = m} b = rw (b.link, b.stay) (among_middle b.front m b.back)

  pub between_place : {k : ℕ} {ms : List M} {m : M} {rest : List M} → Between k ms m rest → (1 ≤ k) × (k ≤ length ms)
  between_place b = rw (b.link, length-append) (omega (arith, b.place))
