-- `areas::words::code_of` meets its contract: 1, 2, or both counts as numbers, each at most 384, so that the word fits.
use Rattle.std.proofs.Common.{ℕ, ◌≤◌, true, ◌≡◌, ℤ, w32, to_z, of_z, arith}
use Rattle.steps.specs.declared.Message.{Message}
use Rattle.steps.specs.declared.Message.TheVariants.{Ack}
use Rattle.steps.specs.declared.TwoCounts.{TwoCounts}
use Rattle.steps.specs.Step.{small, count_small}
use Rattle.steps.proofs.Counts.{signed_back, small_fits, both_small_parts}
use Rattle.areas.specs.Area.{lifted, code_of}
use Rattle.areas.specs.CodeLaws.{lifted_range}
use Rattle.areas.proofs.Signs.{word_read, word_number}
use Rattle.areas.proofs.words.code_of.Goals as goal

-- the two counts of a message in range are in range
ranges : {m : Message} {z : TwoCounts} → count_small m ≡ true → m ≡ Ack z → (small z.count ≡ true) × (small z.second ≡ true)
unfolding count_small
ranges {m} {z} h e = both_small_parts z (rw e at h)

-- a count in range whose bits are read back
module _ (z : ℤ) (s : small z ≡ true) where
  back : small (to_z w32 (of_z w32 z)) ≡ true
  back = rw (signed_back z (small_fits z s)) s

  number : {a : ℕ} → a ≡ lifted (to_z w32 (of_z w32 z)) → a ≡ lifted z
  number e = word_read lifted z (small_fits z s) e

  few : {a : ℕ} → a ≡ lifted (to_z w32 (of_z w32 z)) → a ≤ 384
  few e = rw (number e) (lifted_range z s).1

pub lifted-requires : goal.lifted-requires
lifted-requires c = back _ (ranges c.requires c.in-Ack.is).0

pub lifted-requires-in-Ack : goal.lifted-requires-in-Ack
lifted-requires-in-Ack c = back _ (ranges c.requires c.in-Ack.is).1

pub overflow_mul-result : goal.overflow_mul-result
overflow_mul-result c = omega (arith, few _ (ranges c.requires c.in-Ack.is).1 c.lifted-in-Ack.ensures)

pub overflow_add-result : goal.overflow_add-result
overflow_add-result c =
    let h = ranges c.requires c.in-Ack.is in
    omega (arith, few _ h.0 c.lifted.ensures, few _ h.1 c.lifted-in-Ack.ensures)

pub overflow_cast-result : goal.overflow_cast-result
overflow_cast-result c =
    let h = ranges c.requires c.in-Ack.is in
    omega (arith, few _ h.0 c.lifted.ensures, few _ h.1 c.lifted-in-Ack.ensures)

pub returns-in-Suc : goal.returns-in-Suc
unfolding code_of
returns-in-Suc c = rw c.in-Suc.is

pub returns-in-Pre : goal.returns-in-Pre
unfolding code_of
returns-in-Pre c = rw c.in-Pre.is

pub returns-in-Ack : goal.returns-in-Ack
unfolding code_of
returns-in-Ack c =
    let h = ranges c.requires c.in-Ack.is in
    rw (c.in-Ack.is, ← number _ h.0 c.lifted.ensures, ← number _ h.1 c.lifted-in-Ack.ensures)
    (word_number _ (omega (arith, few _ h.0 c.lifted.ensures, few _ h.1 c.lifted-in-Ack.ensures)))
