-- What the sums of a run say of each one: every sum and every waiting count is within −128 to 128, and what they are when nothing waits.
--   subordinates_few, waitless_few   == both tallies are Few
--   sum_small       == the sum of every process, by a tally, is in range
--   counts_small_met    == every waiting count and second count is in range
--   sum_end         == when no process is busy and nothing waits, the start has as sum what all processes add, and any other process 0
-- Assumes nothing.
use Prim.Native.Nat.{ℕ, suc, ◌+◌, ◌*◌, ◌≤◌}
use Rattle.std.specs.Prelude.{Bool, true, false, ◌&&◌, List, [], ◌∷◌, ◌≡◌, eqb, negsuc}
use Rattle.std.proofs.Math.Path.{refl}
use Rattle.std.proofs.Common.{ap, ◌∙◌, le-leb}
use Rattle.std.proofs.Math.Nat.{mul-le-mul}
use native.Mathlib.Omega.{arith}
use Rattle.std.proofs.Math.IntN.{ℤ, pos}
use Rattle.base.specs.Choice.{choose}
use Rattle.base.specs.ChoiceLaws.{bit_≤1, same?, and_both}
use Rattle.base.specs.Checks.{Same, same, apart}
use Rattle.base.specs.Sums.{sum_to, spot}
use Rattle.base.specs.SumLaws.{spot_at, spot_off, sum_to_cong, sum_to_add, sum_to_zero, sum_to_part, sum_to_spot, sum_to_most}
use Rattle.base.specs.Parts.{above, below}
use Rattle.base.specs.PartLaws.{parts_pos}
use Rattle.tables.specs.Waits.{Waits, out_degree}
use Rattle.tables.specs.Sound.{Sound}
use Rattle.tables.specs.Table.{IsProcess}
use Rattle.machine.specs.Machine.{all_right}
use Rattle.machine.specs.Weights.{weight, total, sum_of}
use Rattle.steps.specs.declared.Message.{Message}
use Rattle.steps.specs.declared.Message.TheVariants.{Suc, Pre, Ack}
use Rattle.steps.specs.declared.Process.{Process}
use Rattle.steps.specs.declared.TwoCounts.{TwoCounts}
use Rattle.steps.specs.Step.{most_count, small, both_small, count_small, own_count, new_subordinate}
use Rattle.steps.specs.Effect.{counts_of, both}
use Rattle.checks.specs.Run.{Run, counts_small}
use Rattle.ending.specs.Weights.{Tally, subordinates, waitless, sum_in, count_in, worth_of, slack_of, Few, both_off}
use Rattle.ending.specs.Invariants.{Tidy, Summed}

-- ---- one integer, one link

-- an integer whose two parts are in range is in range
small_of : (z : ℤ) → above z ≤ most_count → below z ≤ most_count → small z ≡ true
unfolding small
small_of (pos n) u l = le-leb n most_count u
small_of (negsuc n) u l = le-leb (suc n) most_count l

-- the counts of one kind that wait on a link are together in range
record Short (part : TwoCounts → ℤ) (ms : List Message) : Type 0 where
  up : weight (λ m. above (part (counts_of m))) ms ≤ most_count
  down : weight (λ m. below (part (counts_of m))) ms ≤ most_count

module _ {part : TwoCounts → ℤ} {m : Message} {ms : List Message} (h : Short part (m ∷ ms)) where
  short_first : small (part (counts_of m)) ≡ true
  unfolding weight
  short_first = small_of (part (counts_of m)) (omega (arith, h.up)) (omega (arith, h.down))

  short_rest : Short part ms
  unfolding weight
  short_rest = record { up = omega (arith, h.up); down = omega (arith, h.down) }

count_small_of : (m : Message) → small (counts_of m).count ≡ true → small (counts_of m).second ≡ true → count_small m ≡ true
unfolding count_small both_small
count_small_of Suc u l = refl
count_small_of Pre u l = refl
count_small_of (Ack c) u l = and_both (small c.count) (small c.second) u l

counts_small_of : (ms : List Message) → Short (λ c. c.count) ms → Short (λ c. c.second) ms → counts_small ms ≡ true
unfolding all_right
counts_small_of [] u l = refl
counts_small_of (m ∷ ms) u l =
    and_both (count_small m) (counts_small ms) (count_small_of m (short_first u) (short_first l)) (counts_small_of ms (short_rest u) (short_rest l))

-- ---- one process

-- no process is subordinate and has both flags
one_of_two : (x : Process) → x.succeeding ≤ 1 → x.preceding ≤ 1 → x.subordinate ≡ new_subordinate x → (s i : ℕ) → x.subordinate + both_off s i x ≤ 1
unfolding both_off new_subordinate
one_of_two x u v e s i = omega (arith, off (eqb i s), flags (same? x.preceding 0))
  where
    off : (c : Bool) → choose c 0 (both x) ≤ both x
    off true = omega arith
    off false = omega arith

    most : (c : Bool) → choose (c && true) 1 0 ≤ 1
    most true = omega arith
    most false = omega arith

    none : (c : Bool) → choose (c && false) 1 0 ≤ 0
    none true = omega arith
    none false = omega arith

    flags : Same x.preceding 0 → choose (eqb x.succeeding 1 && eqb x.preceding 0) 1 0 + both x ≤ 1
    flags (same p f) = rw (f, p) (omega (arith, most (eqb x.succeeding 1)))
    flags (apart p f) = let one : x.preceding ≡ 1 = omega arith in rw (f, one) (omega (arith, none (eqb x.succeeding 1)))

-- a sum over all processes that is 0 but at one
sum_to_alone : (n i : ℕ) (f : ℕ → ℕ) → 1 ≤ i → i ≤ n → ((k : ℕ) → 1 ≤ k → k ≤ n → (k ≡ i → ⊥) → f k ≡ 0) → sum_to n f ≡ f i
sum_to_alone n i f l u h = sum_to_cong n f (spot i (f i)) (λ k p q. at k p q (same? k i)) ∙ sum_to_spot n i (f i) l u
  where
    at : (k : ℕ) → 1 ≤ k → k ≤ n → Same k i → f k ≡ spot i (f i) k
    at k p q (same e _) = rw (e, spot_at i (f i))
    at k p q (apart e _) = rw (spot_off i (f i) k e) (h k p q e)

module _ {w : Waits} {s : ℕ} {r : Run} (tidy : Tidy w s r) where
  pub subordinates_few : Few (subordinates s) w r
  subordinates_few i p = one_of_two (r.process i) (tidy.succ_bit i p) (tidy.prec_bit i p) (tidy.sub_is i p) s i

  pub waitless_few : Few (waitless w) w r
  unfolding own_count
  waitless_few i p =
      let most : (r.process i).succeeding * own_count (out_degree w i) ≤ 1 * 1 = mul-le-mul (tidy.succ_bit i p) (bit_≤1 (eqb (out_degree w i) 0)) in
      omega arith

module _ {w : Waits} {s : ℕ} {r : Run} (sound : Sound w) (τ : Tally) (few : Few τ w r) (summed : Summed w s τ r) where
  -- what all add, and all slack, are together at most as many as the largest N, and so as the largest count
  few_flagged : worth_of τ w r + slack_of τ w r ≤ most_count
  unfolding worth_of slack_of
  few_flagged =
      let worth : ℕ → ℕ = λ i. τ.worth i (r.process i) in
      let slack : ℕ → ℕ = λ i. τ.slack i (r.process i) in
      let parts : sum_to w.n (λ i. worth i + slack i) ≡ sum_to w.n worth + sum_to w.n slack = sum_to_add w.n worth slack in
      let most : sum_to w.n (λ i. worth i + slack i) ≤ 1 * w.n = sum_to_most w.n 1 (λ i. worth i + slack i) (λ i p q. few i (p, q)) in
      omega (arith, sound.few)

  few_above : sum_of w.n (λ x. above (sum_in τ x)) r + total w.n (λ m. above (count_in τ m)) r ≤ most_count
  few_above = omega (arith, few_flagged, summed.balance, summed.falls)

  few_below : sum_of w.n (λ x. below (sum_in τ x)) r + total w.n (λ m. below (count_in τ m)) r ≤ most_count
  few_below = omega (arith, few_flagged, summed.falls)

  pub sum_small : (i : ℕ) → IsProcess w.n i → small (sum_in τ (r.process i)) ≡ true
  unfolding sum_of
  sum_small i p = small_of (sum_in τ (r.process i)) (omega (arith, few_above, part above)) (omega (arith, few_below, part below))
    where
      part : (g : ℤ → ℕ) → g (sum_in τ (r.process i)) ≤ sum_to w.n (λ k. g (sum_in τ (r.process k)))
      part g = sum_to_part w.n (λ k. g (sum_in τ (r.process k))) i p.0 p.1

  short_link : (a b : ℕ) → IsProcess w.n a → IsProcess w.n b → Short τ.part (r.link a b)
  unfolding total
  short_link a b pa pb =
      record { up = omega (arith, few_above, part (λ m. above (count_in τ m))); down = omega (arith, few_below, part (λ m. below (count_in τ m))) }
    where
      part : (μ : Message → ℕ) → weight μ (r.link a b) ≤ sum_to w.n (λ x. sum_to w.n (λ y. weight μ (r.link x y)))
      part μ =
          omega (
            arith,
            sum_to_part w.n (λ y. weight μ (r.link a y)) b pb.0 pb.1,
            sum_to_part w.n
                (λ x. sum_to w.n (λ y. weight μ (r.link x y))) a pa.0 pa.1,
          )

  pub sum_end : IsProcess w.n s → ((i : ℕ) → IsProcess w.n i → (r.process i).num ≡ 0)
      → ((a b : ℕ) → IsProcess w.n a → IsProcess w.n b → r.link a b ≡ [])
      → (sum_in τ (r.process s) ≡ pos (worth_of τ w r)) × ((i : ℕ) → IsProcess w.n i → (i ≡ s → ⊥) → sum_in τ (r.process i) ≡ pos 0)
  unfolding total sum_of weight
  sum_end sIn idle empty = (
    parts_pos (sum_in τ (r.process s)) (worth_of τ w r)
        (omega (arith, summed.balance, alone above refl, alone below refl, nothing (λ m. above (count_in τ m)), nothing (λ m. below (count_in τ m)))),
    others,
  )
    where
      others : (i : ℕ) → IsProcess w.n i → (i ≡ s → ⊥) → sum_in τ (r.process i) ≡ pos 0
      others i p d = summed.at_rest i p d (idle i p)

      alone : (g : ℤ → ℕ) → g (pos 0) ≡ 0 → sum_to w.n (λ k. g (sum_in τ (r.process k))) ≡ g (sum_in τ (r.process s))
      alone g z = sum_to_alone w.n s (λ k. g (sum_in τ (r.process k))) sIn.0 sIn.1 (λ k p q d. ap g (others k (p, q) d) ∙ z)

      nothing : (μ : Message → ℕ) → sum_to w.n (λ a. sum_to w.n (λ b. weight μ (r.link a b))) ≡ 0
      nothing μ =
          sum_to_zero w.n (λ a. sum_to w.n (λ b. weight μ (r.link a b)))
          (λ a p q. sum_to_zero w.n (λ b. weight μ (r.link a b)) (λ b p' q'. ap (weight μ) (empty a b (p, q) (p', q'))))

-- both kinds of counts
pub counts_small_met : {w : Waits} {s : ℕ} {r : Run} → Sound w → Tidy w s r → Summed w s (subordinates s) r → Summed w s (waitless w) r
    → (a b : ℕ) → IsProcess w.n a → IsProcess w.n b → counts_small (r.link a b) ≡ true
counts_small_met {w} {s} {r} sound tidy sums seconds a b pa pb =
    counts_small_of (r.link a b) (short_link sound (subordinates s) (subordinates_few tidy) sums a b pa pb)
    (short_link sound (waitless w) (waitless_few tidy) seconds a b pa pb)
