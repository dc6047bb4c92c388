-- Demand 3 whole: after any accepted start on any accepted table, under either edition, and any list of calls.
--   demand_3      == THE THEOREM. MeetsLayout, waitsOf: crate tables. Call: crate machine. start_run, passed, Promise: crate checks
-- Assumes nothing.
use Rattle.std.specs.Prelude.{ℕ, List}
use Rattle.tables.specs.Table.{field_of, IsProcess}
use Rattle.tables.specs.Layout.{MeetsLayout}
use Rattle.tables.specs.Waits.{waits_of}
use Rattle.tables.specs.WaitsLaws.{waits_of_sound}
use Rattle.machine.specs.Lists.{Call}
use Rattle.checks.specs.Run.{IsEdition, start_run}
use Rattle.checks.specs.Lists.{Promise, passed}
use Rattle.ending.specs.Ending.{ending}

-- demand 3: for every accepted table, every start process of it, both editions (02, N4), and every list of picks, runnings on, with a seed too
-- (02, N13), reports and readings
pub demand_3 : (bs : List ℕ) → MeetsLayout bs → (s : ℕ) → IsProcess (waits_of (field_of bs)).n s → (ed : ℕ) → IsEdition ed → (cs : List Call)
    → Promise (waits_of (field_of bs)) s ed (passed cs (start_run (waits_of (field_of bs)) s ed))
demand_3 bs h s i ed named cs = ending (waits_of (field_of bs)) (waits_of_sound (field_of bs) h.right) s i ed named cs
