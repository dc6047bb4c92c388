-- The flags where nothing waits, and the number of probes: what `Spread` says of the end.
--   succ_most, prec_most   == at any time the flags are set on reachable and on reaching processes alone
--   succ_end, prec_end, sub_end   == then the flags say who is reachable, who reaches the start, and who is an outsider
--   outsiders_sum, sinks_sum   == and as many are subordinate as there are outsiders, as many succeeding that wait for nobody as sinks
--   d_of_sum             == D, by processes
--   sends_most          == twice the probes sent are at most D
--   sends_end           == and D where nothing waits
--   d_of_most            == D is at most 2048
--   knot_end, wait_end  == all reach back exactly if there is no outsider, and all wait for somebody exactly if there is no sink
-- Assumes nothing.
use Prim.Native.Nat.{ℕ, ◌+◌, ◌*◌, ◌≤◌}
use Rattle.std.specs.Prelude.{Bool, ◌&&◌, ◌||◌, ◌≡◌, ◌↔◌}
use Rattle.std.proofs.Math.Bool.{true, false, not, and-true, and-false}
use Rattle.std.proofs.lemmas.Bool.{false≢true}
use Rattle.std.proofs.Math.Path.{refl}
use Rattle.std.proofs.Common.{ap, ◌∙◌, ⊎_elim, eq-zero-or-pos, mul-le-mul_left, mul-le-mul_right}
use Rattle.std.proofs.Math.Nat.{add-le-add}
use native.Mathlib.Omega.{arith}
use Rattle.std.proofs.Math.Dec.{eqb}
use Rattle.base.specs.Choice.{choose, bit}
use Rattle.base.specs.Sums.{sum_to, count_to, all_to}
use Rattle.base.specs.SumLaws.{sum_to_cong, sum_to_add, sum_to_le, sum_to_zero, sum_to_parts, sum_to_swap, all_to_at, all_to_of}
use Rattle.tables.specs.Waits.{Waits, out_degree, in_degree}
use Rattle.tables.specs.Sound.{Sound, arc_count}
use Rattle.tables.specs.Table.{IsProcess}
use Rattle.machine.specs.Weights.{weight}
use Rattle.steps.specs.declared.Message.{Message}
use Rattle.steps.specs.declared.Process.{Process}
use Rattle.steps.specs.Step.{own_count, new_subordinate}
use Rattle.checks.specs.Run.{Run, most_deliveries}
use Rattle.checks.specs.Reach.{reaches, all_reach_back, outsider, outsiders, waits_for_some, all_wait, sink, sinks, d_of}
use Rattle.checks.proofs.ReachLaws.{from_in, to_in, reaches_forward, reaches_backward, reaches_P, waits_for_some_own}
use Rattle.ending.specs.Weights.{sends, subordinates, waitless, worth_of}
use Rattle.ending.specs.Spreading.{Side, NoneWaits}
use Rattle.ending.specs.Invariants.{Tidy, Spread}

-- ---- flags

-- a number that is at most a test, and is not 0 where it passes
bit_exact : (f : ℕ) (b : Bool) → f ≤ bit b → (b ≡ true → 1 ≤ f) → f ≡ bit b
bit_exact f true l h = omega (arith, h refl)
bit_exact f false l h = omega arith

module _ {w : Waits} {flag : Process → ℕ} {μ : Message → ℕ} {e : ℕ → ℕ → Bool} {R : ℕ → Type 0} {r : Run} (sd : Side w flag μ e R r) where
  -- where nothing waits, whom e leads to has the flag
  side_next : NoneWaits w r → (i j : ℕ) → IsProcess w.n i → IsProcess w.n j → e i j ≡ true → 1 ≤ flag (r.process i) → 1 ≤ flag (r.process j)
  unfolding weight
  side_next none i j iIn jIn f l = omega (arith, rw (none i j iIn jIn, f) at (sd.kept i j iIn jIn))

  -- a flag is at most the test that says who may have it
  side_most : (i : ℕ) (b : Bool) → IsProcess w.n i → flag (r.process i) ≤ 1 → (R i → b ≡ true) → flag (r.process i) ≤ bit b
  side_most i b iIn l h = ⊎_elim (λ z. omega arith) (λ p. rw (h (sd.may i iIn (omega arith))) l) (eq-zero-or-pos (flag (r.process i)))

module _ {w : Waits} {s : ℕ} {r : Run} (ok : Sound w) (td : Tidy w s r) (sp : Spread w s r) where
  succ_most : (i : ℕ) → IsProcess w.n i → (r.process i).succeeding ≤ bit (reaches w s i)
  succ_most i iIn = side_most sp.sucs i (reaches w s i) iIn (td.succ_bit i iIn) (reaches_P w ok s i td.start_is_in).1

  prec_most : (i : ℕ) → IsProcess w.n i → (r.process i).preceding ≤ bit (reaches w i s)
  prec_most i iIn = side_most sp.pres i (reaches w i s) iIn (td.prec_bit i iIn) (reaches_P w ok i s iIn).1

  pub succ_end : NoneWaits w r → (i : ℕ) → IsProcess w.n i → (r.process i).succeeding ≡ bit (reaches w s i)
  succ_end none i iIn =
      bit_exact (r.process i).succeeding (reaches w s i) (succ_most i iIn)
      (λ y. reaches_forward (λ x. 1 ≤ (r.process x).succeeding) (λ a b e. side_next sp.sucs none a b (from_in ok a b e) (to_in ok a b e) e)
      ((reaches_P w ok s i td.start_is_in).0 y) (omega arith))

  pub prec_end : NoneWaits w r → (i : ℕ) → IsProcess w.n i → (r.process i).preceding ≡ bit (reaches w i s)
  prec_end none i iIn =
      bit_exact (r.process i).preceding (reaches w i s) (prec_most i iIn)
      (λ y. reaches_backward (λ x. 1 ≤ (r.process x).preceding) (λ a b e. side_next sp.pres none b a (to_in ok a b e) (from_in ok a b e) e)
      ((reaches_P w ok i s iIn).0 y) (omega arith))

  pub sub_end : NoneWaits w r → (i : ℕ) → IsProcess w.n i → (r.process i).subordinate ≡ bit (outsider w s i)
  unfolding new_subordinate outsider
  sub_end none i iIn = td.sub_is i iIn ∙ rw (succ_end none i iIn, prec_end none i iIn) (at (reaches w s i) (reaches w i s))
    where
      at : (x y : Bool) → choose (eqb (bit x) 1 && eqb (bit y) 0) 1 0 ≡ bit (x && not y)
      at true true = refl
      at true false = refl
      at false true = refl
      at false false = refl

  -- what each sum has counted at the end
  pub outsiders_sum : NoneWaits w r → worth_of (subordinates s) w r ≡ outsiders w s
  unfolding worth_of outsiders count_to
  outsiders_sum none = sum_to_cong w.n (λ i. (r.process i).subordinate) (λ i. bit (outsider w s i)) (λ i l u. sub_end none i (l, u))

  pub sinks_sum : NoneWaits w r → worth_of (waitless w) w r ≡ sinks w s
  unfolding worth_of sinks sink count_to
  sinks_sum none =
      sum_to_cong w.n (λ i. (r.process i).succeeding * own_count (out_degree w i)) (λ i. bit (reaches w s i && not (waits_for_some w i)))
      (λ i l u. rw (succ_end none i (l, u), waits_for_some_own w i) (at (reaches w s i) (waits_for_some w i)))
    where
      at : (x y : Bool) → bit x * bit (not y) ≡ bit (x && not y)
      at true true = refl
      at true false = refl
      at false y = omega arith

-- ---- the number of probes

-- a test that does not depend on what is counted is a factor
count_and : (n : ℕ) (p : ℕ → Bool) (c : Bool) → count_to n (λ k. p k && c) ≡ bit c * count_to n p
unfolding count_to
count_and n p true = sum_to_cong n (λ k. bit (p k && true)) (λ k. bit (p k)) (λ k _ _. ap bit (and-true (p k))) ∙ omega arith
count_and n p false = sum_to_zero n (λ k. bit (p k && false)) (λ k _ _. ap bit (and-false (p k))) ∙ omega arith

-- the order of two counts may be exchanged
count_swap : (n : ℕ) (p : ℕ → ℕ → Bool) → sum_to n (λ a. count_to n (λ b. p a b)) ≡ sum_to n (λ b. count_to n (λ a. p a b))
unfolding count_to
count_swap n p = sum_to_swap n n (λ a b. bit (p a b))

module _ (w : Waits) (s : ℕ) where
  d_of_sum : d_of w s ≡ 2 * sum_to w.n (λ i. bit (reaches w s i) * out_degree w i + bit (reaches w i s) * in_degree w i)
  unfolding d_of out_degree in_degree
  d_of_sum =
      let n : ℕ = w.n in
      let out : ℕ → ℕ = λ i. bit (reaches w s i) * count_to n (λ j. w.waits i j) in
      let back : ℕ → ℕ = λ i. bit (reaches w i s) * count_to n (λ j. w.waits j i) in
      let left : sum_to n (λ a. count_to n (λ b. w.waits a b && reaches w s a)) ≡ sum_to n out =
      sum_to_cong n _ out (λ a _ _. count_and n (λ b. w.waits a b) (reaches w s a)) in
      let right : sum_to n (λ b. count_to n (λ a. w.waits a b && reaches w b s)) ≡ sum_to n back =
      sum_to_cong n _ back (λ b _ _. count_and n (λ a. w.waits a b) (reaches w b s)) in
      omega (arith, count_swap n (λ a b. w.waits a b && reaches w b s), sum_to_add n out back)

  in_sum : sum_to w.n (λ i. in_degree w i) ≡ arc_count w
  unfolding arc_count out_degree in_degree
  in_sum = count_swap w.n (λ i j. w.waits j i)

  -- each of the two sums counts at most all arcs
  pub d_of_most : Sound w → d_of w s ≤ most_deliveries
  unfolding arc_count
  d_of_most ok =
      let n : ℕ = w.n in
      let both : ℕ → ℕ = λ i. out_degree w i + in_degree w i in
      let part : sum_to n (λ i. bit (reaches w s i) * out_degree w i + bit (reaches w i s) * in_degree w i) ≤ sum_to n both =
      sum_to_le n _ both (λ i _ _. add-le-add (factor (reaches w s i) (out_degree w i)) (factor (reaches w i s) (in_degree w i))) in
      omega (arith, d_of_sum, sum_to_add n (out_degree w) (in_degree w), in_sum, ok.arcs)
    where
      factor : (b : Bool) (v : ℕ) → bit b * v ≤ v
      factor true v = omega arith
      factor false v = omega arith

module _ {w : Waits} {s : ℕ} {r : Run} (ok : Sound w) (td : Tidy w s r) (sp : Spread w s r) where
  pub sends_most : 2 * sends w r ≤ d_of w s
  unfolding sends
  sends_most =
      rw (d_of_sum w s)
      (mul-le-mul_left 2
      (sum_to_le w.n _ _ (λ i l u. add-le-add (mul-le-mul_right (out_degree w i) (succ_most ok td sp i (l, u)))
      (mul-le-mul_right (in_degree w i) (prec_most ok td sp i (l, u))))))

  pub sends_end : NoneWaits w r → 2 * sends w r ≡ d_of w s
  unfolding sends
  sends_end none =
      rw (d_of_sum w s)
      (ap (λ (v : ℕ). 2 * v)
      (sum_to_cong w.n _ _ (λ i l u. rw (succ_end ok td sp none i (l, u), prec_end ok td sp none i (l, u)))))

-- ---- knots

-- all that pass one test pass another, exactly if those that do not are none
all_none : (n : ℕ) (f g : ℕ → Bool) → (all_to n (λ p. not (f p) || g p) ≡ true) ↔ (count_to n (λ p. f p && not (g p)) ≡ 0)
unfolding count_to
all_none n f g = (
  λ k. sum_to_zero n _ (λ p l u. none (f p) (g p) (all_to_at n (λ p. not (f p) || g p) k p l u)),
  λ z. all_to_of n _ (λ p l u. all (f p) (g p) (sum_to_parts n (λ p. bit (f p && not (g p))) z p l u)),
)
  where
    none : (x y : Bool) → (not x || y) ≡ true → bit (x && not y) ≡ 0
    none true true e = refl
    none true false e = absurd (false≢true e)
    none false y e = refl

    all : (x y : Bool) → bit (x && not y) ≡ 0 → (not x || y) ≡ true
    all true true e = refl
    all true false e = absurd (omega arith)
    all false y e = refl

pub knot_end : (w : Waits) (s : ℕ) → (all_reach_back w s ≡ true) ↔ (outsiders w s ≡ 0)
unfolding all_reach_back outsiders outsider
knot_end w s = all_none w.n (reaches w s) (λ p. reaches w p s)

-- 02, N3: every process reachable from the start waits for somebody, exactly if those that do not are none
pub wait_end : (w : Waits) (s : ℕ) → (all_wait w s ≡ true) ↔ (sinks w s ≡ 0)
unfolding all_wait sinks sink
wait_end w s = all_none w.n (reaches w s) (waits_for_some w)
