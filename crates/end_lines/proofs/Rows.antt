-- The lines of the processes, one by one.
--   Rows r p before after   == the lines of the processes before p are put
--   rows_first, rows_next, rows_all   == of none, of one more, of all
--   rows_room                == there is room for the next one
-- Assumes nothing.
use Rattle.std.proofs.Common.{ℕ, suc, ◌+◌, ◌-◌, ◌≤◌, List, ◌++◌, ◌≡◌, ap, ◌∙◌, arith, length, length-append}
use Rattle.machine.specs.Calls.{in_row}
use Rattle.machine.specs.LinkListLaws.{in_row_more}
use Rattle.steps.specs.declared.Process.{Process}
use Rattle.checks.specs.Run.{Run}
use Rattle.lines.specs.declared.Page.{Page}
use Rattle.lines.specs.Text.{process_line}
use Rattle.lines.specs.Adding.{HasRoom, Adds}
use Rattle.lines.specs.AddingLaws.{adds_none, ◌adds-then◌}
use Rattle.program_text.specs.Program.{processes_text}

abbrev pub row_of : Run → ℕ → List ℕ
row_of r p = process_line p (r.process p)

abbrev pub Rows : Run → ℕ → Page → Page → Type 0
Rows r p before after = Adds before (in_row (p - 1) (row_of r)) after

pub rows_first : (r : Run) {before : Page} → Rows r 1 before before
unfolding in_row
rows_first r = adds_none

module _ (r : Run) (p : ℕ) (low : 1 ≤ p) where
  row_more : in_row (p + 1 - 1) (row_of r) ≡ in_row (p - 1) (row_of r) ++ row_of r p
  unfolding in_row
  row_more =
      let up : p + 1 - 1 ≡ suc (p - 1) = omega arith in
      let is : suc (p - 1) ≡ p = omega arith in
      ap (λ (k : ℕ). in_row k (row_of r)) up ∙ ap (λ (k : ℕ). in_row (p - 1) (row_of r) ++ row_of r k) is

  module _ {before page : Page} (x : Rows r p before page) {y : Process} (e : y ≡ r.process p) where
    pub rows_next : {next : Page} → Adds page (process_line p y) next → Rows r (p + 1) before next
    rows_next q = rw (row_more, ← e) (x adds-then q)

    pub rows_room : p ≤ r.waits.n → HasRoom before (processes_text r) → HasRoom page (process_line p y)
    unfolding processes_text
    rows_room u h =
        let all = in_row_more (row_of r) (p + 1 - 1) r.waits.n (omega arith) in
        let this = ap (λ (t : List ℕ). length t) row_more ∙ length-append (in_row (p - 1) (row_of r)) (row_of r p) in
        let same : length (process_line p y) ≡ length (row_of r p) = ap (λ (z : Process). length (process_line p z)) e in
        omega (arith, all, this, same, x.put.grows, x.put.kept)

pub rows_all : (r : Run) (p n : ℕ) → r.waits.n ≡ n → n + 1 ≤ p → p ≤ n + 1 → {before page : Page} → Rows r p before page → Adds before (processes_text r) page
unfolding processes_text
rows_all r p n e l u x = let z : p - 1 ≡ r.waits.n = omega arith in rw z at x
