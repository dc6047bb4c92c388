-- What the functions of the rules promise each other.
--   Addable x        == rule 3 can add to the sum of the record x
-- Assumes nothing.
use Rattle.std.specs.Prelude.{◌≤◌, true, ◌≡◌}
use Rattle.steps.specs.declared.Process.{Process}
use Rattle.steps.specs.Step.{small}

-- "subordinate (0 or 1 ..), cs (−128 to 128)"
pub record Addable (x : Process) : Type 0 where
  pub flag : x.subordinate ≤ 1
  pub count : small x.cs ≡ true
