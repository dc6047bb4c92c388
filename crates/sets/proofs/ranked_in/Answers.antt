-- `sets::ranked_in` meets its contract. The loop's invariant: the two words hold a set whose process with the rank that is left is the
-- one that is looked for.
use Rattle.std.proofs.Common.{ℕ, ◌+◌, ◌-◌, Bool, ◌≡◌, arith, bit_and}
use Rattle.sets.specs.RankLaws.{struck_low, struck_high, nth_none, nth_first}
use Rattle.sets.proofs.ranked_in.Invariants.{Left}
use Rattle.sets.proofs.ranked_in.Goals as goal
use Rattle.sets.proofs.ranked_in.Goals.{then-low-ne0, else-low-ne0+then-high-ne0, else-low-ne0+else-high-ne0}

module _ {S : ℕ → Bool} {rank low high k i : ℕ} (h : Left S rank low high k) (e : k ≡ i + 1) where
  left_low : (low ≡ 0 → ⊥) → Left S rank (bit_and low (low - 1)) high i
  left_low n = let t = struck_low h.1 n in (t.0, t.1, λ r x. h.2 r (rw e (t.2 i r x)))

  left_high : low ≡ 0 → (high ≡ 0 → ⊥) → Left S rank low (bit_and high (high - 1)) i
  left_high z n = let t = struck_high h.1 z n in (t.0, t.1, λ r x. h.2 r (rw e (t.2 i r x)))

  left_none : low ≡ 0 → high ≡ 0 → Left S rank low high i
  left_none z y = (h.0, h.1, λ r x. h.2 r (nth_none h.1 z y k r))

left_as : {S : ℕ → Bool} {rank low high k : ℕ} → Left S rank low high k → {l h : ℕ} → l ≡ low → h ≡ high → Left S rank l h k
left_as x e f = rw (e, f) x

pub loop-preserved : goal.loop-preserved
loop-preserved c =
    let rank : ℕ = c.args.rank in
    let less : rank - c.loop.counter ≡ rank - (c.loop.counter + 1) + 1 = omega (arith, c.loop-test.true) in (
      omega (arith, c.loop-test.true),
      λ S is.
          let h = c.loop.invariant.1 S is in
          elim c.if-low-ne0.branch [
            | then-low-ne0 w ↦ left_as (left_low h less w.if-low-ne0.true) w.low-is w.high-is
            | else-low-ne0+then-high-ne0 w ↦ left_as (left_high h less w.if-low-ne0.false w.if-high-ne0.true) w.low-is w.high-is
            | else-low-ne0+else-high-ne0 w ↦ left_as (left_none h less w.if-low-ne0.false w.if-high-ne0.false) w.low-is w.high-is
          ],
    )

pub returns : goal.returns
returns c S is =
    let l = c.loop-test.false in
    let h = c.loop.invariant.1 S is in
    let z : c.args.rank - c.loop.counter ≡ 0 = omega (arith, l) in
    h.2 _ (rw (z, c.lowest_of.ensures.is) (nth_first h.1))
