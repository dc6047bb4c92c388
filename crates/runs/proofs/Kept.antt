-- What a change of the run keeps of a tested area.
--   running_holds   == the cells of an area stay those of the area that a change leaves
-- Assumes nothing.
use Rattle.std.proofs.Common.{ℕ, List, ℤ}
use Rattle.tables.specs.declared.Sizes.{Sizes}
use Rattle.checks.specs.Run.{Run}
use Rattle.lenses.proofs.Holding.{Holding}
use Rattle.remembering.specs.Running.{Running}
use Rattle.remembering.specs.RunningLaws.{running_kept}

pub running_holds : {w v : List ℤ} {sq : List ℕ} {s : Sizes} {r : Run} → Running w sq s → Holding w v r → Running v sq s
running_holds y h = rw h.is (running_kept y h.fit)
