-- A well-formed run, and an accepted delivery, part by part.
--   Formed ρ r          == the parts of well_formed, by name
--   Acceptable ρ r a b m rest   == the parts of accepts, by name
-- Assumes nothing.
use Rattle.std.specs.Prelude.{ℕ, ◌+◌, ◌≤◌, true, false, List, [], ◌≡◌, length}
use Rattle.tables.specs.Table.{IsProcess}
use Rattle.tables.specs.Waits.{neighbours}
use Rattle.machine.specs.Machine.{Machine, Rules, all_right, after}

pub record Formed {P M : Type 0} (ρ : Rules P M) (r : Machine P M) : Type 0 where
  pub room : ρ.room r ≡ true
  pub start_is_in : IsProcess r.waits.n r.start
  pub edition : ρ.edition_right r.edition ≡ true
  pub count : r.count ≤ ρ.most
  pub records : (p : ℕ) → IsProcess r.waits.n p → ρ.record_right r.waits p (r.process p) ≡ true
  pub short : (a b : ℕ) → IsProcess r.waits.n a → IsProcess r.waits.n b → length (r.link a b) ≤ ρ.capacity
  pub joined : (a b : ℕ) → IsProcess r.waits.n a → IsProcess r.waits.n b → neighbours r.waits a b ≡ false → r.link a b ≡ []
  pub messages : (a b : ℕ) → IsProcess r.waits.n a → IsProcess r.waits.n b → all_right ρ.message_right (r.link a b) ≡ true

pub record Acceptable {P M : Type 0} (ρ : Rules P M) (r : Machine P M) (a b : ℕ) (m : M) (rest : List M) : Type 0 where
  pub room : ρ.room (after ρ r a b m rest) ≡ true
  pub count : r.count + 1 ≤ ρ.most
  pub fits : ρ.fits r.waits r.start a b m (r.process b) ≡ true
  pub short : (q : ℕ) → IsProcess r.waits.n q → length ((after ρ r a b m rest).link b q) ≤ ρ.capacity
