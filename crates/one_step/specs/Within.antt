-- What the functions inside a step promise each other.
--   settled t        == the answer to a step t whose num suffices: t, or 22
-- Assumes nothing.
use Rattle.std.specs.Prelude.{not, ◌&&◌, Result}
use Rattle.base.specs.Choice.{choose}
use Rattle.refusals.specs.declared.Refusal.{Refusal}
use Rattle.refusals.specs.Numbers.{answered}
use Rattle.steps.specs.Step.{Turn, in_range, reply_fits}

-- 22, "the step would take a value out of its range, .. or acknowledge to father 0", but for num, which loses 1 before
unfoldable pub settled : Turn → Result Turn Refusal
settled t = answered (choose (not (in_range t.process && reply_fits t.sent.reply)) 22 0) t
