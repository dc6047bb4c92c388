-- Which runs the area of a table holds.
--   cut t             == the fields of t up to the last of a table with its N and M, 0 past it
--   Shut t            == no field past the table's last: what bytes and areas give
--   Contained t r     == r has the waits of t, a record for its processes alone, and links between neighbours alone
-- Assumes nothing.
use Rattle.std.specs.Prelude.{ℕ, ◌≤◌, false, [], ◌≡◌, ltb}
use Rattle.base.specs.Choice.{choose}
use Rattle.tables.specs.Table.{Fields, n_of, is_process}
use Rattle.tables.specs.Waits.{waits_of, neighbours}
use Rattle.steps.specs.Step.{idle}
use Rattle.checks.specs.Run.{Run}
use Rattle.areas.specs.Area.{field_total_of}

-- fields up to the table's last, 0 past it
unfoldable pub cut : Fields → Fields
cut t j = choose (ltb j (field_total_of t)) (t j) 0

abbrev pub Shut : Fields → Type 0
Shut t = (j : ℕ) → field_total_of t ≤ j → t j ≡ 0

pub record Contained (t : Fields) (r : Run) : Type 0 where
  pub waits : r.waits ≡ waits_of t
  pub processes : (p : ℕ) → is_process (n_of t) p ≡ false → r.process p ≡ idle
  pub links : (a b : ℕ) → neighbours (waits_of t) a b ≡ false → r.link a b ≡ []
