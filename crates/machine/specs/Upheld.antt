-- What the invariants of a check must give, so that what is common to all checks holds of every list of calls.
--   Upheld ρ quota asked I   == every run that I holds of is well formed, counts what is out, and takes every message that waits; deliveries keep I
--   Turned I p           == p is what an accepted delivery gives and leaves
--   RanOut ρ x           == running on ended over
--   RanShort ρ n x       == running on was spent with n deliveries made
-- Assumes nothing.
use Rattle.std.specs.Prelude.{ℕ, true, false, ◌≡◌, Ok}
use Rattle.machine.specs.declared.Ran.{Ran}
use Rattle.machine.specs.declared.Ran.TheVariants.{Spent}
use Rattle.machine.specs.Machine.{Machine, Rules, over}
use Rattle.machine.specs.Calls.{given, Picked, RanOn}
use Rattle.machine.specs.Lists.{Reads}
use Rattle.machine.specs.Made.{Sure}
use Rattle.machine.specs.Diffusing.{Quota, Near, Diffusing, Treed}

pub record Upheld {P M : Type 0} (ρ : Rules P M) (quota : Quota P) (asked : Reads P M) (I : Machine P M → Type 0) : Type 0 where
  pub sure : Sure ρ asked I
  pub near : (r : Machine P M) → I r → Near quota r.waits
  pub diffusing : (r : Machine P M) → I r → Diffusing ρ quota r.waits r.start r
  pub treed : (r : Machine P M) → I r → Treed ρ r.waits r.start r

-- a delivery was made, and I holds of the run that it leaves
pub record Turned {P M : Type 0} (I : Machine P M → Type 0) (p : Picked P M) : Type 0 where
  pub message : M
  pub gives : p.answer ≡ given message
  pub keeps : I p.run

-- running on says over, and leaves a run that is over
pub record RanOut {P M : Type 0} (ρ : Rules P M) (x : RanOn P M) : Type 0 where
  pub made : ℕ
  pub says : x.answer ≡ Ok (Ran.Over made)
  pub ended : over ρ x.run ≡ true

-- running on says spent, and leaves a run that is not over
pub record RanShort {P M : Type 0} (ρ : Rules P M) (made : ℕ) (x : RanOn P M) : Type 0 where
  pub says : x.answer ≡ Ok (Spent made)
  pub goes_on : over ρ x.run ≡ false
