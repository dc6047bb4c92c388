-- How long the lines are at most, of values in their ranges.
--   field_most             == a number of at most k + 1 digits
--   count_most             == a count of −128 to 128
--   delivery_most          == a delivery between processes, behind `pick` or `own`
--   refused_pick_most, refused_most   == a refused pick of any two ends, and a refusal, by a number of two digits
--   process_most, report_most   == a process, and a report
-- Assumes nothing.
use Rattle.std.specs.Prelude.{ℕ, suc, ◌+◌, ◌^◌, ◌<◌, ◌≤◌, Bool, true, ◌≡◌, refl, ℤ, pos, negsuc, nat_abs, length}
use native.Mathlib.Omega.{arith}
use Rattle.std.proofs.Common.{leb-true}
use Rattle.std.proofs.Math.ListN.{length-append}
use Rattle.base.specs.ChoiceLaws.{and_left, and_right}
use Rattle.tables.specs.Table.{most_processes}
use Rattle.steps.specs.declared.Message.{Message}
use Rattle.steps.specs.declared.Message.TheVariants.{Suc, Pre, Ack}
use Rattle.steps.specs.declared.Process.{Process}
use Rattle.steps.specs.Step.{small, both_small, count_small, in_range}
use Rattle.steps.specs.Effect.{RecordInRange}
use Rattle.steps.specs.StepLaws.{in_range_P}
use Rattle.checks.specs.declared.Verdict.{Verdict}
use Rattle.checks.specs.declared.Verdict.TheVariants.{Knot, Free}
use Rattle.checks.specs.declared.Mark.{Mark}
use Rattle.checks.specs.declared.Mark.TheVariants.{Returned, Held}
use Rattle.checks.specs.Run.{most_deliveries}
use Rattle.lines.specs.Text.{signed, field, count_field, who, link_text, message_text, delivery_line, refused_pick_line, number_line}
use Rattle.lines.specs.Text.{refused_line, flags_text, sums_text, process_line, over_line, verdict_line, outside_line, escape_line, mark_line, report_text}
use Rattle.lines.specs.TextLaws.{decimal_length}

pub field_most : (k n : ℕ) → n < 10 ^ suc k → length (field n) ≤ k + 2
unfolding field
field_most k n h = simp length-append (omega (arith, decimal_length k n h))

count_digits : (z : ℤ) → nat_abs z ≤ 128 → length (signed z) ≤ 4
unfolding signed
count_digits (pos n) h = omega (arith, decimal_length 2 n (omega arith))
count_digits (negsuc n) h = simp length-append (omega (arith, decimal_length 2 (suc n) (omega arith)))

pub count_most : (z : ℤ) → nat_abs z ≤ 128 → length (count_field z) ≤ 5
unfolding count_field
count_most z h = simp length-append (omega (arith, count_digits z h))

small_most : (z : ℤ) → small z ≡ true → length (count_field z) ≤ 5
unfolding small
small_most z e = count_most z (leb-true (nat_abs z) 128 e)

message_most : (m : Message) → count_small m ≡ true → length (message_text m) ≤ 14
unfolding message_text count_small both_small
message_most Suc e = omega arith
message_most Pre e = omega arith
message_most (Ack c) e =
    simp length-append
    (omega (
      arith,
      small_most c.count (and_left (small c.count) (small c.second) e),
      small_most c.second (and_right (small c.count) (small c.second) e),
    ))

pub delivery_most : (own : Bool) (a b : ℕ) (m : Message) → a ≤ most_processes → b ≤ most_processes → count_small m ≡ true
    → length (delivery_line own a b m) ≤ length (who own) + 23
unfolding delivery_line link_text
delivery_most own a b m l u e =
    simp length-append
    (omega (
      arith,
      field_most 2 a (omega arith),
      field_most 2 b (omega arith),
      message_most m e,
    ))

pub refused_pick_most : (a b n : ℕ) → a < 65536 → b < 65536 → n < 100 → length (refused_pick_line a b n) ≤ 28
unfolding refused_pick_line link_text
refused_pick_most a b n l u h =
    simp length-append
    (omega (
      arith,
      field_most 4 a (omega arith),
      field_most 4 b (omega arith),
      field_most 1 n (omega arith),
    ))

pub refused_most : (n : ℕ) → n < 100 → length (refused_line n) ≤ 11
unfolding refused_line number_line
refused_most n h = simp length-append (omega (arith, field_most 1 n (omega arith)))

-- ---- a process

module _ (x : Process) (e : in_range x ≡ true) where
  ranges : RecordInRange x
  ranges = in_range_P x e

  flags_most : length (flags_text x) ≤ 6
  unfolding flags_text
  flags_most =
      simp length-append
      (omega (
        arith,
        field_most 0 x.succeeding (omega (arith, ranges.succeeding)),
        field_most 0 x.preceding (omega (arith, ranges.preceding)),
        field_most 0 x.subordinate (omega (arith, ranges.subordinate)),
      ))

  sums_most : length (sums_text x) ≤ 14
  unfolding sums_text
  sums_most =
      simp length-append
      (omega (arith, count_most x.cs ranges.cs, field_most 2 x.num (omega (arith, ranges.num)), count_most x.second ranges.second))

  pub process_most : (p : ℕ) → p ≤ most_processes → length (process_line p x) ≤ 32
  unfolding process_line
  process_most p h =
      simp length-append
      (omega (
        arith,
        field_most 2 p (omega arith),
        flags_most,
        sums_most,
      ))

-- ---- a report

verdict_length : (v : Verdict) → length (verdict_line v) ≡ 13
unfolding verdict_line
verdict_length Knot = refl
verdict_length Free = refl

mark_most : (m : Mark) → length (mark_line m) ≤ 14
unfolding mark_line
mark_most Returned = omega arith
mark_most Held = omega arith

outside_most : (o : ℤ) → nat_abs o ≤ 128 → length (outside_line o) ≤ 13
unfolding outside_line
outside_most o h = simp length-append (omega (arith, count_most o h))

pub report_most : (d : ℕ) (v : Verdict) (o : ℤ) (e : ℕ) (m : Mark) → d ≤ most_deliveries → nat_abs o ≤ 128 → e ≤ most_processes
    → length (report_text d v o e m) ≤ 61
unfolding report_text over_line escape_line number_line
report_most d v o e m h i j =
    simp length-append
    (omega (
      arith,
      field_most 3 d (omega arith),
      field_most 2 e (omega arith),
      verdict_length v,
      outside_most o i,
      mark_most m,
    ))
