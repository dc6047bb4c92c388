-- Laws of sums, tests and searches over the numbers 1 to n, each named after its definition. Those that are cited most:
--   sum_to_cong, sum_to_add, sum_to_le, sum_to_zero, sum_to_part, sum_to_swap, sum_to_scale, sum_to_times   == sums of like parts
--   sum_to_more, sum_to_short   == sums of more parts: no less, and the same if only 0 is added
--   all_to_at, all_to_of, any_to_of, any_to_found   == what a test of all, or of some, says of one
--   sum_to_some, sum_to_one, sum_to_full, sum_to_least   == sums whose parts are 0 or 1, or at least 1
--   count_to_most, count_to_one, sum_to_pick, sum_to_pick_two   == a test that at most one number passes, and one part picked out of a sum
--   count_to_P   == count_to counts what HowMany counts
--   lowest_to_P, lowest_to_same   == lowest_to finds what Lowest says; by two tests that agree it finds the same
-- Assumes nothing.
use Rattle.std.specs.Prelude.{ℕ, zero, suc, ◌+◌, ◌-◌, ◌*◌, ◌≤◌, ◌<◌, Bool, true, false, ◌&&◌, ◌||◌, ◌≡◌, refl, ◌↔◌, eqb}
use Rattle.std.proofs.lemmas.Bool.{false≢true}
use Rattle.std.proofs.Common.{sym, ap, ◌∙◌, subst, ⊎_elim, zero-mul, one-mul, mul-zero, mul-add, mul-suc, add-mul, arith}
use Rattle.base.specs.Choice.{choose, bit}
use Rattle.base.specs.Sums.{sum_to, count_to, all_to, any_to, or_next, lowest_to, spot, Found, Part}
use Rattle.base.specs.Sums.{HowMany, none, one_more, no_more, Lowest, at_first, at_none}
use Rattle.base.specs.ChoiceLaws.{bit_≤1, bit_some, tested, same?, and_left, and_right, and_both}
use Rattle.base.specs.Checks.{Tested, passed, failed, Same, same, apart}
use Rattle.base.specs.ChoiceLaws.{or_cases, or_left, or_right}

-- ---- spot

pub spot_at : (i v : ℕ) → spot i v i ≡ v
unfolding spot
spot_at i v = at (same? i i)
  where
    at : Same i i → choose (eqb i i) v 0 ≡ v
    at (same p e) = rw e
    at (apart p e) = absurd (p refl)

pub spot_off : (i v k : ℕ) → (k ≡ i → ⊥) → spot i v k ≡ 0
unfolding spot
spot_off i v k h = at (same? k i)
  where
    at : Same k i → choose (eqb k i) v 0 ≡ 0
    at (same p e) = absurd (h p)
    at (apart p e) = rw e

-- ---- sum_to

pub sum_to_cong : (n : ℕ) (f g : ℕ → ℕ) → ((k : ℕ) → 1 ≤ k → k ≤ n → f k ≡ g k) → sum_to n f ≡ sum_to n g
unfolding sum_to
sum_to_cong zero f g h = refl
sum_to_cong (suc n) f g h =
    let here : f (suc n) ≡ g (suc n) = h (suc n) (omega arith) (omega arith) in
    let below : sum_to n f ≡ sum_to n g = sum_to_cong n f g (λ k p q. h k p (omega arith)) in
    omega arith

pub sum_to_add : (n : ℕ) (f g : ℕ → ℕ) → sum_to n (λ k. f k + g k) ≡ sum_to n f + sum_to n g
unfolding sum_to
sum_to_add zero f g = refl
sum_to_add (suc n) f g =
    let below : sum_to n (λ k. f k + g k) ≡ sum_to n f + sum_to n g = sum_to_add n f g in
    omega arith

pub sum_to_le : (n : ℕ) (f g : ℕ → ℕ) → ((k : ℕ) → 1 ≤ k → k ≤ n → f k ≤ g k) → sum_to n f ≤ sum_to n g
unfolding sum_to
sum_to_le zero f g h = omega arith
sum_to_le (suc n) f g h =
    let here : f (suc n) ≤ g (suc n) = h (suc n) (omega arith) (omega arith) in
    let below : sum_to n f ≤ sum_to n g = sum_to_le n f g (λ k p q. h k p (omega arith)) in
    omega arith

pub sum_to_zero : (n : ℕ) (f : ℕ → ℕ) → ((k : ℕ) → 1 ≤ k → k ≤ n → f k ≡ 0) → sum_to n f ≡ 0
unfolding sum_to
sum_to_zero zero f h = refl
sum_to_zero (suc n) f h =
    let here : f (suc n) ≡ 0 = h (suc n) (omega arith) (omega arith) in
    let below : sum_to n f ≡ 0 = sum_to_zero n f (λ k p q. h k p (omega arith)) in
    omega arith

-- each part of a sum of 0 is 0
pub sum_to_parts : (n : ℕ) (f : ℕ → ℕ) → sum_to n f ≡ 0 → (k : ℕ) → 1 ≤ k → k ≤ n → f k ≡ 0
unfolding sum_to
sum_to_parts zero f h k p q = absurd (omega arith)
sum_to_parts (suc n) f h k p q = at (same? k (suc n)) (sum_to_parts n f (omega arith) k p)
  where
    at : Same k (suc n) → (k ≤ n → f k ≡ 0) → f k ≡ 0
    at (same e _) below = rw e (omega arith)
    at (apart e _) below = below (omega arith)

-- one part is at most the sum
pub sum_to_part : (n : ℕ) (f : ℕ → ℕ) (k : ℕ) → 1 ≤ k → k ≤ n → f k ≤ sum_to n f
unfolding sum_to
sum_to_part zero f k p q = absurd (omega arith)
sum_to_part (suc n) f k p q = at (same? k (suc n)) (sum_to_part n f k p)
  where
    at : Same k (suc n) → (k ≤ n → f k ≤ sum_to n f) → f k ≤ sum_to n f + f (suc n)
    at (same e _) below = rw e (omega arith)
    at (apart e _) below = omega (arith, below (omega arith))

-- the first m parts, and k more
sum_to_split : (m k : ℕ) (f : ℕ → ℕ) → sum_to (m + k) f ≡ sum_to m f + sum_to k (λ i. f (m + i))
unfolding sum_to
sum_to_split m zero f = let e : m + 0 ≡ m = omega arith in ap (λ (n : ℕ). sum_to n f) e ∙ omega arith
sum_to_split m (suc k) f =
    let e : m + suc k ≡ suc (m + k) = omega arith in
    ap (λ (n : ℕ). sum_to n f) e ∙ omega (arith, sum_to_split m k f, ap f e)

pub sum_to_more : (m n : ℕ) (f : ℕ → ℕ) → m ≤ n → sum_to m f ≤ sum_to n f
sum_to_more m n f u =
    let e : m + (n - m) ≡ n = omega arith in
    omega (arith, ap (λ (k : ℕ). sum_to k f) e, sum_to_split m (n - m) f)

pub sum_to_short : (m n : ℕ) (f : ℕ → ℕ) → m ≤ n → ((k : ℕ) → m < k → f k ≡ 0) → sum_to n f ≡ sum_to m f
sum_to_short m n f u z =
    let e : m + (n - m) ≡ n = omega arith in
    let none = sum_to_zero (n - m) (λ i. f (m + i)) (λ k l _. z (m + k) (omega arith)) in
    omega (arith, ap (λ (k : ℕ). sum_to k f) e, sum_to_split m (n - m) f, none)

pub sum_to_spot : (n i v : ℕ) → 1 ≤ i → i ≤ n → sum_to n (spot i v) ≡ v
unfolding sum_to
sum_to_spot zero i v p q = absurd (omega arith)
sum_to_spot (suc n) i v p q = at (same? i (suc n)) (sum_to_spot n i v p)
  where
    off : i ≡ suc n → sum_to n (spot i v) ≡ 0
    off e = sum_to_zero n (spot i v) (λ k a b. spot_off i v k (λ c. absurd (omega arith)))

    at : Same i (suc n) → (i ≤ n → sum_to n (spot i v) ≡ v) → sum_to n (spot i v) + spot i v (suc n) ≡ v
    at (same e _) within =
        let below : sum_to n (spot i v) ≡ 0 = off e in
        let here : spot i v (suc n) ≡ v = subst (λ (k : ℕ). spot i v k ≡ v) e (spot_at i v) in
        omega arith
    at (apart e _) within =
        let below : sum_to n (spot i v) ≡ v = within (omega arith) in
        let here : spot i v (suc n) ≡ 0 = spot_off i v (suc n) (λ c. e (sym c)) in
        omega arith

-- the order of two sums may be exchanged
pub sum_to_swap : (n m : ℕ) (f : ℕ → ℕ → ℕ) → sum_to n (λ i. sum_to m (λ j. f i j)) ≡ sum_to m (λ j. sum_to n (λ i. f i j))
unfolding sum_to
sum_to_swap zero m f = sym (sum_to_zero m (λ j. 0) (λ k p q. refl))
sum_to_swap (suc n) m f =
    let below : sum_to n (λ i. sum_to m (λ j. f i j)) ≡ sum_to m (λ j. sum_to n (λ i. f i j)) = sum_to_swap n m f in
    let split : sum_to m (λ j. sum_to n (λ i. f i j) + f (suc n) j) ≡ sum_to m (λ j. sum_to n (λ i. f i j)) + sum_to m (λ j. f (suc n) j) =
    sum_to_add m (λ j. sum_to n (λ i. f i j)) (λ j. f (suc n) j) in
    omega arith

-- a factor may stand before a sum
pub sum_to_scale : (n c : ℕ) (f : ℕ → ℕ) → sum_to n (λ k. c * f k) ≡ c * sum_to n f
unfolding sum_to
sum_to_scale zero c f = sym (mul-zero c)
sum_to_scale (suc n) c f =
    let below : sum_to n (λ k. c * f k) ≡ c * sum_to n f = sum_to_scale n c f in
    rw (mul-add c (sum_to n f) (f (suc n))) (omega arith)

-- n parts of at most c
pub sum_to_most : (n c : ℕ) (f : ℕ → ℕ) → ((k : ℕ) → 1 ≤ k → k ≤ n → f k ≤ c) → sum_to n f ≤ c * n
unfolding sum_to
sum_to_most zero c f h = omega arith
sum_to_most (suc n) c f h =
    let here : f (suc n) ≤ c = h (suc n) (omega arith) (omega arith) in
    let below : sum_to n f ≤ c * n = sum_to_most n c f (λ k p q. h k p (omega arith)) in
    rw (mul-suc c n) (omega arith)

-- ---- all_to and any_to

pub all_to_at : (n : ℕ) (p : ℕ → Bool) → all_to n p ≡ true → (k : ℕ) → 1 ≤ k → k ≤ n → p k ≡ true
unfolding all_to
all_to_at zero p e k l u = absurd (omega arith)
all_to_at (suc n) p e k l u = at (same? k (suc n)) (all_to_at n p (and_left (all_to n p) (p (suc n)) e) k l)
  where
    at : Same k (suc n) → (k ≤ n → p k ≡ true) → p k ≡ true
    at (same q _) below = rw q (and_right (all_to n p) (p (suc n)) e)
    at (apart q _) below = below (omega arith)

pub all_to_of : (n : ℕ) (p : ℕ → Bool) → ((k : ℕ) → 1 ≤ k → k ≤ n → p k ≡ true) → all_to n p ≡ true
unfolding all_to
all_to_of zero p h = refl
all_to_of (suc n) p h =
    and_both (all_to n p) (p (suc n)) (all_to_of n p (λ k l u. h k l (omega arith))) (h (suc n) (omega arith) (omega arith))

-- tests that agree from 1 to n
all_to_cong : (n : ℕ) (p q : ℕ → Bool) → ((k : ℕ) → 1 ≤ k → k ≤ n → p k ≡ q k) → all_to n p ≡ all_to n q
unfolding all_to
all_to_cong zero p q h = refl
all_to_cong (suc n) p q h = rw (all_to_cong n p q (λ k l u. h k l (omega arith)), h (suc n) (omega arith) (omega arith))

pub any_to_cong : (n : ℕ) (p q : ℕ → Bool) → ((k : ℕ) → 1 ≤ k → k ≤ n → p k ≡ q k) → any_to n p ≡ any_to n q
unfolding any_to
any_to_cong zero p q h = refl
any_to_cong (suc n) p q h = rw (any_to_cong n p q (λ k l u. h k l (omega arith)), h (suc n) (omega arith) (omega arith))

pub any_to_of : (n : ℕ) (p : ℕ → Bool) (k : ℕ) → 1 ≤ k → k ≤ n → p k ≡ true → any_to n p ≡ true
unfolding any_to
any_to_of zero p k l u h = absurd (omega arith)
any_to_of (suc n) p k l u h = at (same? k (suc n)) (λ v. any_to_of n p k l v h)
  where
    at : Same k (suc n) → (k ≤ n → any_to n p ≡ true) → (any_to n p || p (suc n)) ≡ true
    at (same q _) below = or_right (any_to n p) (p (suc n)) (rw q at h)
    at (apart q _) below = or_left (any_to n p) (p (suc n)) (below (omega arith))

pub any_to_found : (n : ℕ) (p : ℕ → Bool) → any_to n p ≡ true → Found n p
unfolding any_to
any_to_found zero p e = absurd (false≢true e)
any_to_found (suc n) p e = ⊎_elim (λ q. more (any_to_found n p q)) here (or_cases (any_to n p) (p (suc n)) e)
  where
    more : Found n p → Found (suc n) p
    more f = record { at = f.at; low = f.low; high = omega arith; passes = f.passes }

    here : p (suc n) ≡ true → Found (suc n) p
    here q = record { at = suc n; low = omega arith; high = omega arith; passes = q }

-- ---- sums whose parts are 0 or 1

-- a sum above 0 has a part above 0
pub sum_to_some : (n : ℕ) (f : ℕ → ℕ) → 1 ≤ sum_to n f → Part n f
unfolding sum_to
sum_to_some zero f h = absurd (omega arith)
sum_to_some (suc n) f h = here (same? (f (suc n)) 0) (λ u. sum_to_some n f u)
  where
    more : Part n f → Part (suc n) f
    more q = record { at = q.at; low = q.low; high = omega arith; some = q.some }

    here : Same (f (suc n)) 0 → (1 ≤ sum_to n f → Part n f) → Part (suc n) f
    here (same e _) below = more (below (omega arith))
    here (apart e _) below = record { at = suc n; low = omega arith; high = omega arith; some = omega arith }

-- parts of at most 1, of which at most one is not 0
pub sum_to_one : (n : ℕ) (f : ℕ → ℕ) → ((k : ℕ) → 1 ≤ k → k ≤ n → f k ≤ 1) → ((j k : ℕ) → 1 ≤ j → j ≤ n → 1 ≤ k → k ≤ n → 1 ≤ f j → 1 ≤ f k → j ≡ k)
    → sum_to n f ≤ 1
unfolding sum_to
sum_to_one zero f h alone = omega arith
sum_to_one (suc n) f h alone =
    here (same? (f (suc n)) 0) (sum_to_one n f (λ k l u. h k l (omega arith)) (λ j k l u l' u'. alone j k l (omega arith) l' (omega arith)))
  where
    last : f (suc n) ≤ 1
    last = h (suc n) (omega arith) (omega arith)

    zeros : 1 ≤ f (suc n) → (k : ℕ) → 1 ≤ k → k ≤ n → Same (f k) 0 → f k ≡ 0
    zeros s k l u (same e _) = e
    zeros s k l u (apart e _) = absurd (omega (arith, alone k (suc n) l (omega arith) (omega arith) (omega arith) (omega arith) s))

    here : Same (f (suc n)) 0 → sum_to n f ≤ 1 → sum_to n f + f (suc n) ≤ 1
    here (same e _) below = omega arith
    here (apart e _) below =
        let none : sum_to n f ≡ 0 = sum_to_zero n f (λ k l u. zeros (omega arith) k l u (same? (f k) 0)) in
        omega (arith, last)

-- n parts of at most 1 make n only if each is 1
pub sum_to_full : (n : ℕ) (f : ℕ → ℕ) → ((k : ℕ) → 1 ≤ k → k ≤ n → f k ≤ 1) → n ≤ sum_to n f → (k : ℕ) → 1 ≤ k → k ≤ n → f k ≡ 1
unfolding sum_to
sum_to_full zero f h e k l u = absurd (omega arith)
sum_to_full (suc n) f h e k l u = here (same? k (suc n)) (λ v w. sum_to_full n f (λ j a b. h j a (omega arith)) v k l w)
  where
    most : sum_to n f ≤ 1 * n
    most = sum_to_most n 1 f (λ j a b. h j a (omega arith))

    last : f (suc n) ≤ 1
    last = h (suc n) (omega arith) (omega arith)

    here : Same k (suc n) → (n ≤ sum_to n f → k ≤ n → f k ≡ 1) → f k ≡ 1
    here (same q _) below = rw q (omega (arith, most, last))
    here (apart q _) below = below (omega (arith, last)) (omega arith)

-- n parts of at least 1
pub sum_to_least : (n : ℕ) (f : ℕ → ℕ) → ((k : ℕ) → 1 ≤ k → k ≤ n → 1 ≤ f k) → n ≤ sum_to n f
unfolding sum_to
sum_to_least zero f h = omega arith
sum_to_least (suc n) f h = omega (arith, sum_to_least n f (λ k l u. h k l (omega arith)), h (suc n) (omega arith) (omega arith))

-- of 1 to n at most n pass a test
pub count_to_most : (n : ℕ) (p : ℕ → Bool) → count_to n p ≤ n
unfolding count_to
count_to_most n p = omega (arith, sum_to_most n 1 (λ k. bit (p k)) (λ k l u. bit_≤1 (p k)))

-- how many pass a test that at most one passes
pub count_to_one : (n : ℕ) (p : ℕ → Bool) → ((j k : ℕ) → 1 ≤ j → j ≤ n → 1 ≤ k → k ≤ n → p j ≡ true → p k ≡ true → j ≡ k)
    → sum_to n (λ k. bit (p k)) ≡ bit (any_to n p)
count_to_one n p alone = at (tested (any_to n p))
  where
    most : sum_to n (λ k. bit (p k)) ≤ 1
    most = sum_to_one n (λ k. bit (p k)) (λ k l u. bit_≤1 (p k)) (λ j k l u l' u' a b. alone j k l u l' u' (bit_some (p j) a) (bit_some (p k) b))

    one : Found n p → 1 ≤ sum_to n (λ k. bit (p k))
    one q =
        let part : bit (p q.at) ≤ sum_to n (λ k. bit (p k)) = sum_to_part n (λ k. bit (p k)) q.at q.low q.high in
        let here : bit (p q.at) ≡ 1 = ap bit q.passes in
        omega arith

    off : any_to n p ≡ false → (k : ℕ) → 1 ≤ k → k ≤ n → Tested (p k) → bit (p k) ≡ 0
    off e k l u (passed q) = absurd (false≢true (sym e ∙ any_to_of n p k l u q))
    off e k l u (failed q) = ap bit q

    at : Tested (any_to n p) → sum_to n (λ k. bit (p k)) ≡ bit (any_to n p)
    at (passed e) = rw e (omega (arith, most, one (any_to_found n p e)))
    at (failed e) = rw e (sum_to_zero n (λ k. bit (p k)) (λ k l u. off e k l u (tested (p k))))

-- one part is picked out of a sum
pub sum_to_pick : (n x : ℕ) (g : ℕ → ℕ) → 1 ≤ x → x ≤ n → sum_to n (λ k. bit (eqb x k) * g k) ≡ g x
sum_to_pick n x g l u = sum_to_cong n (λ k. bit (eqb x k) * g k) (spot x (g x)) (λ k a b. at k (same? x k)) ∙ sum_to_spot n x (g x) l u
  where
    at : (k : ℕ) → Same x k → bit (eqb x k) * g k ≡ spot x (g x) k
    at k (same e q) = rw q (one-mul (g k) ∙ subst (λ (y : ℕ). g y ≡ spot x (g x) y) e (sym (spot_at x (g x))))
    at k (apart e q) = rw q (zero-mul (g k) ∙ sym (spot_off x (g x) k (λ c. e (sym c))))

-- a factor may stand behind a sum
pub sum_to_times : (n c : ℕ) (f : ℕ → ℕ) → sum_to n (λ k. f k * c) ≡ sum_to n f * c
unfolding sum_to
sum_to_times zero c f = sym (zero-mul c)
sum_to_times (suc n) c f = omega (arith, sum_to_times n c f, add-mul (sum_to n f) (f (suc n)) c)

bit_and : (a b : Bool) (v : ℕ) → bit (a && b) * v ≡ bit a * (bit b * v)
bit_and true b v = sym (one-mul (bit b * v))
bit_and false b v = zero-mul v ∙ sym (zero-mul (bit b * v))

-- one part is picked out of a sum over a square
pub sum_to_pick_two : (n x y : ℕ) (g : ℕ → ℕ → ℕ) → 1 ≤ x → x ≤ n → 1 ≤ y → y ≤ n → sum_to n (λ a. sum_to n (λ b. bit (eqb x a && eqb y b) * g a b)) ≡ g x y
sum_to_pick_two n x y g l u l' u' =
    sum_to_cong n (λ a. sum_to n (λ b. bit (eqb x a && eqb y b) * g a b)) (λ a. bit (eqb x a) * g a y) (λ a h h'. row a) ∙ sum_to_pick n x (λ a. g a y) l u
  where
    row : (a : ℕ) → sum_to n (λ b. bit (eqb x a && eqb y b) * g a b) ≡ bit (eqb x a) * g a y
    row a =
        sum_to_cong n (λ b. bit (eqb x a && eqb y b) * g a b) (λ b. bit (eqb x a) * (bit (eqb y b) * g a b))
        (λ b h h'. bit_and (eqb x a) (eqb y b) (g a b)) ∙ sum_to_scale n (bit (eqb x a)) (λ b. bit (eqb y b) * g a b)
        ∙ ap (λ (v : ℕ). bit (eqb x a) * v) (sum_to_pick n y (g a) l' u')

-- ---- count_to and HowMany

pub count_to_P : (n : ℕ) (p : ℕ → Bool) (P : ℕ → Type 0) → ((k : ℕ) → 1 ≤ k → k ≤ n → (p k ≡ true) ↔ P k) → HowMany P n (count_to n p)
unfolding count_to sum_to
count_to_P zero p P h = none
count_to_P (suc n) p P h = at (count_to_P n p P (λ k l u. h k l (omega arith))) (tested (p (suc n)))
  where
    at : HowMany P n (count_to n p) → Tested (p (suc n)) → HowMany P (suc n) (sum_to n (λ k. bit (p k)) + bit (p (suc n)))
    at b (passed e) =
        let up : sum_to n (λ k. bit (p k)) + 1 ≡ suc (sum_to n (λ k. bit (p k))) = omega arith in
        rw (e, up) (one_more b ((h (suc n) (omega arith) (omega arith)).0 e))
    at b (failed e) =
        let up : sum_to n (λ k. bit (p k)) + 0 ≡ sum_to n (λ k. bit (p k)) = omega arith in
        rw (e, up) (no_more b (λ x. false≢true (sym e ∙ (h (suc n) (omega arith) (omega arith)).1 x)))

-- ---- lowest_to and Lowest

module _ (P : ℕ → Type 0) (n : ℕ) where
  -- one number more, which is the lowest only if none was found before it
  lowest_more : (e : ℕ) → Lowest P n e → (b : Bool) → (b ≡ true) ↔ P (suc n) → Lowest P (suc n) (or_next e (choose b (suc n) 0))
  lowest_more (suc e) (at_first l u x low) b h = at_first l (omega arith) x low
  lowest_more zero (at_first l u x low) b h = absurd (omega arith)
  lowest_more zero (at_none f) true h = at_first {e = suc n} (omega arith) (omega arith) (h.0 refl) (λ k l u. f k l (omega arith))
  lowest_more zero (at_none f) false h = at_none (λ k l u x. at k l u x (same? k (suc n)))
    where
      at : (k : ℕ) → 1 ≤ k → k ≤ suc n → P k → Same k (suc n) → ⊥
      at k l u x (same e g) = false≢true (h.1 (subst P e x))
      at k l u x (apart e g) = f k l (omega arith) x

pub lowest_to_P : (n : ℕ) (p : ℕ → Bool) (P : ℕ → Type 0) → ((k : ℕ) → 1 ≤ k → k ≤ n → (p k ≡ true) ↔ P k) → Lowest P n (lowest_to n p)
unfolding lowest_to
lowest_to_P zero p P h = at_none (λ k l u. absurd (omega arith))
lowest_to_P (suc n) p P h = lowest_more P n (lowest_to n p) (lowest_to_P n p P (λ k l u. h k l (omega arith))) (p (suc n)) (h (suc n) (omega arith) (omega arith))

pub lowest_to_same : (n : ℕ) (p q : ℕ → Bool) → ((k : ℕ) → 1 ≤ k → k ≤ n → p k ≡ q k) → lowest_to n p ≡ lowest_to n q
unfolding lowest_to
lowest_to_same zero p q h = refl
lowest_to_same (suc n) p q h = rw (lowest_to_same n p q (λ k l u. h k l (omega arith)), h (suc n) (omega arith) (omega arith))
