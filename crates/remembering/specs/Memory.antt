-- What the order remembers of a run from one delivery to the next, whatever the order.
--   Remembers r l   == the array l holds which links of the run r hold a message (`Marks`, crate marks)
-- Assumes nothing.
use Rattle.std.specs.Prelude.{ℕ, List}
use Rattle.machine.specs.Calls.{waiting}
use Rattle.checks.specs.Run.{Run}
use Rattle.marks.specs.Marks.{Marks}

-- between processes alone do messages wait, so that all numbers that a process may have are counted
abbrev pub Remembers : Run → List ℕ → Type 0
Remembers r l = Marks (λ a b. waiting (r.link a b)) l
