-- Laws of weights.
--   weight_append, weight_length   == lists one after the other weigh their sum; a list is as long as its probes and acknowledgements
--   probe_or_ack    == a message is a probe or an acknowledgement
--   spot2_at, spot2_off_x, spot2_off_y, spot2_swap, spot2_most   == one pair
--   sum_spot, spot_zero   == many spots at one index are one spot of their sum
--   sum_to_change    == two sums whose parts agree but at one index
--   heir_none, heir_some, heir_busy, heir_start   == a process is heir to its father alone, and only while it is busy
--   pending_probes, pending_acks   == what waits on a link is pending
-- Assumes nothing.
use Rattle.std.specs.Prelude.{ℕ, ◌+◌, ◌≤◌, Bool, true, not, ◌≡◌, eqb, length}
use Rattle.std.proofs.Math.Bool.{false}
use mathlib.Core.List.{List, [], ◌∷◌, ◌++◌}
use Rattle.std.proofs.Math.Path.{refl}
use Rattle.std.proofs.Common.{◌∙◌}
use native.Mathlib.Omega.{arith}
use Rattle.base.specs.Choice.{choose, bit}
use Rattle.base.specs.ChoiceLaws.{same?}
use Rattle.base.specs.Checks.{Same, same, apart}
use Rattle.base.specs.Sums.{sum_to, spot}
use Rattle.base.specs.SumLaws.{spot_at, spot_off, sum_to_cong, sum_to_add, sum_to_spot, sum_to_zero}
use Rattle.machine.specs.Machine.{Machine, Rules}
use Rattle.machine.specs.Weights.{weight, spot2, probe_bit, ack_bit, heir, pending}

-- ---- weight

module _ {M : Type 0} where
  pub weight_append : (μ : M → ℕ) (xs ys : List M) → weight μ (xs ++ ys) ≡ weight μ xs + weight μ ys
  unfolding weight
  weight_append μ [] ys = omega arith
  weight_append μ (m ∷ ms) ys = let rest : weight μ (ms ++ ys) ≡ weight μ ms + weight μ ys = weight_append μ ms ys in omega arith

one_of_both : (b : Bool) → bit b + bit (not b) ≡ 1
one_of_both true = refl
one_of_both false = refl

module _ {P M : Type 0} (ρ : Rules P M) where
  pub probe_or_ack : (m : M) → probe_bit ρ m + ack_bit ρ m ≡ 1
  probe_or_ack m = one_of_both (ρ.probe m)

  pub weight_length : (ms : List M) → length ms ≡ weight (probe_bit ρ) ms + weight (ack_bit ρ) ms
  unfolding weight
  weight_length [] = refl
  weight_length (m ∷ ms) = omega (arith, weight_length ms, probe_or_ack m)

-- ---- spots

pub spot2_at : (a b v : ℕ) → spot2 a b v a b ≡ v
unfolding spot2
spot2_at a b v = spot_at a (spot b v b) ∙ spot_at b v

pub spot2_off_x : (a b v x y : ℕ) → (x ≡ a → ⊥) → spot2 a b v x y ≡ 0
unfolding spot2
spot2_off_x a b v x y h = spot_off a (spot b v y) x h

pub spot2_off_y : (a b v x y : ℕ) → (y ≡ b → ⊥) → spot2 a b v x y ≡ 0
unfolding spot2 spot
spot2_off_y a b v x y h = at (same? x a)
  where
    at : Same x a → choose (eqb x a) (spot b v y) 0 ≡ 0
    at (same e f) = rw f (spot_off b v y h)
    at (apart e f) = rw f

pub spot2_swap : (a b v x y : ℕ) → spot2 a b v y x ≡ spot2 b a v x y
unfolding spot2 spot
spot2_swap a b v x y = swap (eqb y a) (eqb x b)
  where
    swap : (c d : Bool) → choose c (choose d v 0) 0 ≡ choose d (choose c v 0) 0
    swap true true = refl
    swap true false = refl
    swap false true = refl
    swap false false = refl

-- no more is taken at a pair than was to be taken
pub spot2_most : (a b v x y : ℕ) → spot2 a b v x y ≤ v
spot2_most a b v x y = at (same? x a) (same? y b)
  where
    at : Same x a → Same y b → spot2 a b v x y ≤ v
    at (same e _) (same f _) = rw (e, f, spot2_at a b v) (omega arith)
    at (same _ _) (apart f _) = rw (spot2_off_y a b v x y f) (omega arith)
    at (apart e _) _ = rw (spot2_off_x a b v x y e) (omega arith)

pub spot_zero : (i k : ℕ) → spot i 0 k ≡ 0
unfolding spot
spot_zero i k = none (eqb k i)
  where
    none : (c : Bool) → ◌≡◌ {A = ℕ} (choose c 0 0) 0
    none true = refl
    none false = refl

-- many spots at one index are one spot of their sum
pub sum_spot : (n b : ℕ) (f : ℕ → ℕ) (i : ℕ) → sum_to n (λ j. spot b (f j) i) ≡ spot b (sum_to n f) i
sum_spot n b f i = at (same? i b)
  where
    at : Same i b → sum_to n (λ j. spot b (f j) i) ≡ spot b (sum_to n f) i
    at (same e _) = rw (e, spot_at b (sum_to n f)) (sum_to_cong n (λ j. spot b (f j) b) f (λ j _ _. spot_at b (f j)))
    at (apart e _) = rw (spot_off b (sum_to n f) i e) (sum_to_zero n (λ j. spot b (f j) i) (λ j _ _. spot_off b (f j) i e))

-- two sums whose parts agree but at b
pub sum_to_change :
    (n b : ℕ) (f g : ℕ → ℕ) → 1 ≤ b → b ≤ n → ((k : ℕ) → (k ≡ b → ⊥) → f k ≡ g k) → sum_to n f + g b ≡ sum_to n g + f b
sum_to_change n b f g l u h =
    let points : sum_to n (λ k. f k + spot b (g b) k) ≡ sum_to n (λ k. g k + spot b (f b) k) = sum_to_cong n _ _ (λ k _ _. at k (same? k b)) in
    let left : sum_to n (λ k. f k + spot b (g b) k) ≡ sum_to n f + sum_to n (spot b (g b)) = sum_to_add n f (spot b (g b)) in
    let right : sum_to n (λ k. g k + spot b (f b) k) ≡ sum_to n g + sum_to n (spot b (f b)) = sum_to_add n g (spot b (f b)) in
    let gb : sum_to n (spot b (g b)) ≡ g b = sum_to_spot n b (g b) l u in
    let fb : sum_to n (spot b (f b)) ≡ f b = sum_to_spot n b (f b) l u in
    omega arith
  where
    at : (k : ℕ) → Same k b → f k + spot b (g b) k ≡ g k + spot b (f b) k
    at k (same e _) = rw (e, spot_at b (g b), spot_at b (f b)) (omega arith)
    at k (apart e _) =
        let o : spot b (g b) k ≡ 0 = spot_off b (g b) k e in
        let o' : spot b (f b) k ≡ 0 = spot_off b (f b) k e in
        let s : f k ≡ g k = h k e in
        omega arith

-- ---- heirs

module _ (num father : ℕ) where
  pub heir_none : (q : ℕ) → num ≡ 0 → heir false num father q ≡ 0
  unfolding heir
  heir_none q e = at (same? num 0)
    where
      at : Same num 0 → heir false num father q ≡ 0
      at (same _ f) = rw f
      at (apart n f) = absurd (n e)

  pub heir_some : (q : ℕ) → (num ≡ 0 → ⊥) → heir false num father q ≡ spot father 1 q
  unfolding heir
  heir_some q n = at (same? num 0)
    where
      at : Same num 0 → heir false num father q ≡ spot father 1 q
      at (same e f) = absurd (n e)
      at (apart _ f) = rw f

  -- a busy process that is not the start stands with its father
  pub heir_busy : 1 ≤ num → heir false num father father ≡ 1
  heir_busy busy = heir_some father (λ e. omega arith) ∙ spot_at father 1

pub heir_start : (num father q : ℕ) → heir true num father q ≡ 0
unfolding heir
heir_start num father q = refl

module _ {P M : Type 0} (ρ : Rules P M) (s : ℕ) (r : Machine P M) (i j : ℕ) where
  pub pending_probes : weight (probe_bit ρ) (r.link i j) ≤ pending ρ s r i j
  unfolding pending
  pending_probes = omega arith

  pub pending_acks : weight (ack_bit ρ) (r.link j i) ≤ pending ρ s r i j
  unfolding pending
  pending_acks = omega arith
