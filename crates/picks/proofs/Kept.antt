-- What a pick keeps of a tested area.
--   pick_ready   == a tested area stays ready after a pick
-- Assumes nothing.
use Rattle.std.proofs.Common.{ℕ, List, ℤ}
use Rattle.tables.specs.declared.Sizes.{Sizes}
use Rattle.checks.specs.Calls.{pick}
use Rattle.areas.specs.Area.{fields_in, run_in}
use Rattle.lenses.specs.Ready.{Ready}
use Rattle.lenses.specs.ReadyLaws.{right_storable, ready_kept}
use Rattle.delivery.specs.StorableLaws.{storable_pick}
use Rattle.area_calls.specs.AreaCalls.{pick_area}

pub pick_ready : {w : List ℤ} {s : Sizes} → Ready w s → (a b k : ℕ) → Ready (pick_area w a b k) s
unfolding pick_area
pick_ready {w} y a b k =
    let e = y.right in
    rw e (ready_kept w e (pick (run_in w) a b k).run (storable_pick (fields_in w) (run_in w) (right_storable w e) a b k) y)
