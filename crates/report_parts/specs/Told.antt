-- What the parts of a report promise.
--   way_out e x p     == e, or p if e is 0 and the record x of p has subordinate 1
--   knot_by x a       == the verdict is knot, by the start's record and by whether the edition allows it
--   told_of x k d e   == the report at the end, by the start's record, the verdict, the count and the escape
-- Assumes nothing.
use Rattle.std.specs.Prelude.{ℕ, Bool, ◌&&◌}
use Rattle.base.specs.{Choice.choose, Sums.or_next}
use Rattle.steps.specs.declared.Process.{Process}
use Rattle.checks.specs.declared.Report.{Report}
use Rattle.checks.specs.declared.Verdict.TheVariants.{Knot, Free}
use Rattle.checks.specs.Calls.{is_subordinate, is_zero, mark_of}

-- the way out that was found before, or else p, if it is one
abbrev pub way_out : ℕ → Process → ℕ → ℕ
way_out e x p = or_next e (choose (is_subordinate x) p 0)

-- "verdict knot if cs of s is 0", and as the edition asks
abbrev pub knot_by : Process → Bool → Bool
knot_by x a = is_zero x.cs && a

-- "outside = cs of s"; 02, N3: the mark by the start's second sum
abbrev pub told_of : Process → Bool → ℕ → ℕ → Report
told_of x k d e = record { deliveries = d; verdict = choose k Knot Free; outside = x.cs; escape = e; mark = mark_of x }
