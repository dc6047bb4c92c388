-- Laws for loops that test or search the numbers 1 to n in turn, with k the next number: what holds before the first turn, after one more turn, at a
-- number that fails and after the last.
--   all_to_none, all_to_more, all_to_stop, all_to_last   == each of 1 to n passes
--   all_to_end     == the last of 1 to n passed too, where the loop goes by `1..=n`
--   all_to_next    == one more turn, with k the number of turns so far
--   all_to_also    == the same for a loop that goes on past a number that fails
--   all_to_not     == each fails exactly if not some passes
--   any_to_none, any_to_next   == some of 1 to n passes, with k the number of turns so far
--   lowest_to_none, lowest_to_more   == the lowest of 1 to n that passes
-- Assumes nothing.
use Rattle.std.specs.Prelude.{ℕ, zero, suc, ◌+◌, ◌-◌, ◌≤◌, Bool, true, false, not, ◌&&◌, ◌||◌, ◌≡◌, refl}
use Rattle.std.proofs.lemmas.Bool.{false≢true}
use Rattle.std.proofs.Common.{sym, ap, ◌∙◌, add-one, arith}
use Rattle.base.specs.Sums.{all_to, any_to, or_next, lowest_to}
use Rattle.base.specs.Choice.{choose}
use Rattle.base.specs.ChoiceLaws.{tested, and_both}
use Rattle.base.specs.Checks.{Tested, passed, failed}
use Rattle.base.specs.SumLaws.{all_to_at}

pub all_to_none : (p : ℕ → Bool) → all_to 0 p ≡ true
unfolding all_to
all_to_none p = refl

pub any_to_none : (p : ℕ → Bool) → any_to 0 p ≡ false
unfolding any_to
any_to_none p = refl

all_to_suc : (n : ℕ) (p : ℕ → Bool) → all_to (suc n) p ≡ (all_to n p && p (suc n))
unfolding all_to
all_to_suc n p = refl

any_to_suc : (n : ℕ) (p : ℕ → Bool) → any_to (suc n) p ≡ (any_to n p || p (suc n))
unfolding any_to
any_to_suc n p = refl

pub all_to_next : (k : ℕ) (p : ℕ → Bool) → all_to k p ≡ true → p (k + 1) ≡ true → all_to (k + 1) p ≡ true
all_to_next k p e here = rw add-one (all_to_suc k p ∙ and_both (all_to k p) (p (suc k)) e (rw add-one at here))

pub all_to_also : (k : ℕ) (p : ℕ → Bool) → all_to (k + 1) p ≡ (all_to k p && p (k + 1))
all_to_also k p = rw add-one (all_to_suc k p)

pub all_to_more : (k : ℕ) (p : ℕ → Bool) → 1 ≤ k → all_to (k - 1) p ≡ true → p k ≡ true → all_to (k + 1 - 1) p ≡ true
all_to_more k p l e here =
    let last : k - 1 + 1 ≡ k = omega arith in
    let end : k + 1 - 1 ≡ k - 1 + 1 = omega arith in
    ap (λ (j : ℕ). all_to j p) end ∙ all_to_next (k - 1) p e (ap p last ∙ here)

pub all_to_stop : (n k : ℕ) (p : ℕ → Bool) → 1 ≤ k → k ≤ n → p k ≡ false → all_to n p ≡ false
all_to_stop n k p l u here = at (tested (all_to n p))
  where
    at : Tested (all_to n p) → all_to n p ≡ false
    at (passed e) = absurd (false≢true (sym here ∙ all_to_at n p e k l u))
    at (failed e) = e

pub all_to_last : (n k : ℕ) (p : ℕ → Bool) → k ≡ n + 1 → all_to (k - 1) p ≡ true → all_to n p ≡ true
all_to_last n k p e all =
    let end : n ≡ k - 1 = omega arith in
    ap (λ (j : ℕ). all_to j p) end ∙ all

pub all_to_end : (n k : ℕ) (p : ℕ → Bool) → 1 ≤ k → k ≡ n → all_to (k - 1) p ≡ true → p k ≡ true → all_to n p ≡ true
all_to_end n k p l e before here = all_to_last n (k + 1) p (omega arith) (all_to_more k p l before here)

not_and : (a b c : Bool) → a ≡ not b → (a && not c) ≡ not (b || c)
not_and a true c e = rw e
not_and a false c e = rw e

pub all_to_not : (n : ℕ) (p : ℕ → Bool) → all_to n (λ k. not (p k)) ≡ not (any_to n p)
all_to_not zero p = all_to_none (λ k. not (p k)) ∙ sym (ap not (any_to_none p))
all_to_not (suc n) p =
    all_to_suc n (λ k. not (p k)) ∙ not_and (all_to n (λ k. not (p k))) (any_to n p) (p (suc n)) (all_to_not n p) ∙ sym (ap not (any_to_suc n p))

pub any_to_next : (k : ℕ) (p : ℕ → Bool) → any_to (k + 1) p ≡ (any_to k p || p (k + 1))
any_to_next k p = rw add-one (any_to_suc k p)

pub lowest_to_none : (p : ℕ → Bool) → lowest_to 0 p ≡ 0
unfolding lowest_to
lowest_to_none p = refl

lowest_to_suc : (n : ℕ) (p : ℕ → Bool) → lowest_to (suc n) p ≡ or_next (lowest_to n p) (choose (p (suc n)) (suc n) 0)
unfolding lowest_to
lowest_to_suc n p = refl

pub lowest_to_more : (k : ℕ) (p : ℕ → Bool) → 1 ≤ k → lowest_to k p ≡ or_next (lowest_to (k - 1) p) (choose (p k) k 0)
lowest_to_more zero p l = absurd (omega arith)
lowest_to_more (suc k) p l =
    let end : suc k - 1 ≡ k = omega arith in
    rw end (lowest_to_suc k p)
