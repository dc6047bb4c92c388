-- `word_tests::is_free` meets its contract. The loop's invariant: `free` says whether the words passed are 0.
use Rattle.std.proofs.Common.{ℕ, ◌+◌, ◌-◌, ◌^◌, ◌<◌, Bool, ◌&&◌, List, ◌≡◌, sym, arith, ℤ, pos, w32, of_z, get_or, eqb}
use lib.Signed.{mag}
use Rattle.base.specs.Sums.{all_to}
use Rattle.base.specs.PrefixLaws.{all_to_none, all_to_also}
use Rattle.areas.proofs.Signs.{word_same}
use Rattle.word_tests.proofs.Parts.{part_at}
use Rattle.word_tests.proofs.is_free.Invariants.{test}
use Rattle.word_tests.proofs.is_free.Goals as goal

-- one word more
more : (w : List ℤ) (from k : ℕ) {b : Bool} {z : ℤ} → z ≡ get_or w (from + k) (pos 0) → mag z < 2 ^ 31 → b ≡ all_to k (test w from)
    → (b && eqb (of_z w32 z) 0) ≡ all_to (k + 1) (test w from)
more w from k {z = z} i f e =
    let q : from + (k + 1 - 1) ≡ from + k = omega arith in
    rw (all_to_also k (test w from), q, ← i, e, word_same z (pos 0) f (omega arith))

pub loop-word-init : goal.loop-word-init
loop-word-init c = (omega arith, sym (all_to_none (test c.args.area.now c.args.from)))

pub loop-word-preserved : goal.loop-word-preserved
loop-word-preserved c =
    let a = c.args in
    let loop = c.loop-word in
    let p = part_at a.area.now a.from (a.to - a.from) loop.word-index c.loop-word-test.true in
    (omega (arith, p.0), more a.area.now a.from loop.word-index p.1 (omega arith) loop.invariant.1)
