-- What code reads off a tested area: the start and the records.
--   start_right, process_right   == the start is a process, and the record of a process is in range
--   num_is                    == what `unsigned` says of the word of num in a record
--   start_within, start_counts, start_num   == the start's record stands inside, its num is a number, and is the word that was read
-- Assumes nothing.
use Prim.Native.Nat.{ℕ, ◌+◌, ◌^◌, ◌≤◌, ◌<◌}
use mathlib.Core.Bool.{true}
use mathlib.Core.List.{List}
use mathlib.Core.Path.{◌≡◌, ap, ◌∙◌}
use native.Mathlib.Omega.{arith}
use lib.ListN.{length, get_or}
use lib.IntN.{ℤ, pos, nat_abs}
use lib.Signed.{mag}
use mir.Syntax.{w32}
use mir.Val.{to_z, of_z}
use Rattle.steps.specs.declared.Process.{Process}
use Rattle.steps.specs.Step.{in_range}
use Rattle.checks.specs.Run.{knot}
use Rattle.machine.specs.FormedLaws.{well_formed_P}
use Rattle.checks.specs.RunLaws.{formed_range}
use Rattle.areas.specs.Places.{num_place, record_start}
use Rattle.areas.specs.Used.{record_used, Counts}
use Rattle.areas.specs.Area.{run_in}
use Rattle.tables.specs.declared.Sizes.{Sizes}
use Rattle.lenses.specs.Ready.{Ready}
use Rattle.lenses.specs.ReadyLaws.{right_storable, ready_n}
use Rattle.lenses.proofs.Stores.{record_within, record_counts, read_process}
use Rattle.steps.proofs.Counts.{signed_back}

module _ {w : List ℤ} {s : Sizes} (y : Ready w s) where
  pub start_right : (1 ≤ (run_in w).start) × ((run_in w).start ≤ s.n)
  start_right =
      let g = (well_formed_P knot (run_in w)).0 (right_storable w y.right).formed in
      (g.start_is_in.0, omega (arith, g.start_is_in, ready_n y))

  -- what `unsigned` says of the word of num in a record
  pub num_is : {r p k : ℕ} → (1 ≤ p) × (p ≤ s.n) → k ≡ record_start s.n s.m p → mag (get_or w (k + num_place) (pos 0)) < 2 ^ 31
      → r ≡ nat_abs (to_z w32 (of_z w32 (get_or w (k + num_place) (pos 0)))) → r ≡ ((run_in w).process p).num
  num_is {k = k} l e h f =
      (rw (signed_back (get_or w (k + num_place) (pos 0)) h) at f) ∙ ap (λ (x : Process). x.num) (read_process y l e)

  -- the start's record, as code finds it
  module _ {p k : ℕ} (e : p ≡ (run_in w).start) (f : k ≡ record_start s.n s.m p) where
    start_is : k ≡ record_start s.n s.m (run_in w).start
    start_is = rw e at f

    pub start_within : k + record_used ≤ length w
    start_within = record_within y start_right start_is

    pub start_counts : Counts (get_or w (k + num_place) (pos 0))
    start_counts = (record_counts y start_right start_is).num

    pub start_num : {r : ℕ} → mag (get_or w (k + num_place) (pos 0)) < 2 ^ 31 → r ≡ nat_abs (to_z w32 (of_z w32 (get_or w (k + num_place) (pos 0))))
        → r ≡ ((run_in w).process (run_in w).start).num
    start_num = num_is start_right start_is

  pub process_right : (p : ℕ) → 1 ≤ p → p ≤ s.n → in_range ((run_in w).process p) ≡ true
  process_right p l u = formed_range ((well_formed_P knot (run_in w)).0 (right_storable w y.right).formed) p (l, omega (arith, ready_n y))
