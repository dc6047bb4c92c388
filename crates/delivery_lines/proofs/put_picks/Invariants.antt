use Rattle.std.proofs.Common.{ℕ, ◌-◌, ◌≤◌, List, ◌≡◌, ℤ, length}
use Rattle.checks.specs.Lists.{passed}
use Rattle.areas.specs.Area.{run_in}
use Rattle.lenses.specs.Ready.{Ready}
use Rattle.inputs.specs.Input.{picks_in}
use Rattle.lines.specs.declared.Page.{Page}
use Rattle.program_text.specs.Program.{picks_on, pick_calls, picks_text}
use Rattle.delivery_lines.proofs.Partly.{Partly}
use Rattle.delivery_lines.proofs.put_picks.Given as goal

-- all picks from the run of the area w on are those from j on, from the run of the area v on
abbrev pub Rest : List ℕ → ℕ → List ℤ → ℕ → List ℤ → Type 0
Rest bs picks w j v = (passed (pick_calls bs) (run_in w)).left ≡ (passed (picks_on bs j (picks - j)) (run_in v)).left

-- the lines of all picks from the area w on; those from j on, from the area v on, are left
abbrev pub Lines : List ℕ → ℕ → List ℤ → ℕ → List ℤ → Page → Page → Type 0
Lines bs picks w j v before after = Partly (picks_text bs 0 (picks_in bs) (run_in w)) (picks_text bs j (picks - j) (run_in v)) before after

abbrev pub invariant-loop-j : goal.invariant-loop-j
invariant-loop-j l =
    (l.j ≤ l.begun.picks) × (length l.area ≡ length l.initial.area) × Ready l.area l.sizes × Rest l.input l.begun.picks l.initial.area l.j l.area
    × Lines l.input l.begun.picks l.initial.area l.j l.area l.initial.page l.page
