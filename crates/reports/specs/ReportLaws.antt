-- A report by its parts.
--   escape_first, escape_next, escape_last   == the loop that looks for the escape: before the first process, after one more, after the last
--   allowed_first, allowed_second   == what the edition asks, under the first and the second
--   report_told                  == the report at the end, made of the start's record, the verdict, the count and the escape
-- Assumes nothing.
use Rattle.std.specs.Prelude.{ℕ, ◌+◌, ◌-◌, ◌≤◌, Bool, true, false, not, List, ◌≡◌, refl, eqb, ℤ, Ok}
use Rattle.std.proofs.Common.{sym, ap, ◌∙◌, arith, eq-eqb, ne_eqb}
use Rattle.base.specs.ChoiceLaws.{none_test}
use Rattle.base.specs.PrefixLaws.{lowest_to_none, lowest_to_more}
use Rattle.tables.specs.Table.{IsProcess}
use Rattle.tables.specs.Sound.{Sound}
use Rattle.tables.specs.Waits.{out_degree}
use Rattle.steps.specs.declared.Process.{Process}
use Rattle.checks.specs.Run.{Run, over}
use Rattle.checks.specs.Calls.{is_subordinate, escape_of, verdict_of, reported}
use Rattle.checks.specs.Reach.{some_by_arcs, edition_allows}
use Rattle.checks.proofs.ReachLaws.{some_by_arcs_waits}
use Rattle.areas.specs.Area.{run_in, area_right}
use Rattle.area_calls.specs.AreaCalls.{report_answer}
use Rattle.area_calls.specs.CallLaws.{report_over}
use Rattle.report_parts.specs.Told.{way_out, knot_by, told_of}
use Rattle.reports.specs.Judging.{escape_to, allowed_in}

-- ---- the escape, process by process

pub escape_first : (r : Run) → 0 ≡ escape_to r (1 - 1)
escape_first r = sym (lowest_to_none (λ p. is_subordinate (r.process p)))

pub escape_next : (r : Run) (p : ℕ) → 1 ≤ p → (e f : ℕ) (x : Process) → e ≡ escape_to r (p - 1) → x ≡ r.process p → f ≡ way_out e x p
    → f ≡ escape_to r (p + 1 - 1)
escape_next r p l e f x before is after =
    let end : p + 1 - 1 ≡ p = omega arith in
    rw (end, lowest_to_more p (λ q. is_subordinate (r.process q)) l) (after ∙ rw (before, is) refl)

pub escape_last : (r : Run) (n p e : ℕ) → r.waits.n ≡ n → p ≡ n + 1 → e ≡ escape_to r (p - 1) → e ≡ escape_of r
unfolding escape_of
escape_last r n p e is last all =
    let end : p - 1 ≡ r.waits.n = omega arith in
    all ∙ ap (escape_to r) end

-- ---- the edition

pub allowed_first : (r : Run) → (r.edition ≡ 2 → ⊥) → true ≡ allowed_in r
unfolding edition_allows
allowed_first r h = rw (ne_eqb r.edition 2 h)

-- 02, N4, by the number of those whom the start waits for
pub allowed_second : (r : Run) → Sound r.waits → IsProcess r.waits.n r.start → (d : ℕ) → r.edition ≡ 2 → d ≡ out_degree r.waits r.start
    → not (eqb d 0) ≡ allowed_in r
unfolding edition_allows
allowed_second r ok i d two is =
    let none = none_test (out_degree r.waits r.start) (some_by_arcs r.waits r.start) (some_by_arcs_waits r.waits ok r.start i) in
    rw (eq-eqb r.edition 2 two, is, none) (not_not (some_by_arcs r.waits r.start))
  where
    not_not : (b : Bool) → not (not b) ≡ b
    not_not true = refl
    not_not false = refl

-- ---- the report at the end

pub report_told : (w : List ℤ) → area_right w ≡ true → over (run_in w) ≡ true → (x : Process) (a k : Bool) (d e : ℕ)
    → x ≡ (run_in w).process (run_in w).start → a ≡ allowed_in (run_in w) → k ≡ knot_by x a → d ≡ (run_in w).count → e ≡ escape_of (run_in w)
    → Ok (told_of x k d e) ≡ report_answer w
unfolding reported verdict_of
report_told w right o x a k d e p v f q s = rw (f, p, v, q, s) (report_over w right o)
