-- One change of a tested area after another.
--   Holding w v r     == v is the area w with the run r in it, which the area can hold and which is well formed
--   holding_first     == the area itself, with its own run
--   holding_run, holding_ready, holding_length   == what is read from it, what code may go on with, and its length
--   holding_next      == the next change
-- Assumes nothing.
use mathlib.Core.List.{List}
use mathlib.Core.Path.{◌≡◌, sym, ap, ◌∙◌}
use lib.IntN.{ℤ}
use lib.ListN.{length}
use Rattle.checks.specs.Run.{Run}
use Rattle.areas.specs.Area.{fields_in, run_in, keeping}
use Rattle.areas.specs.AreaLaws.{stored_same}
use Rattle.tables.specs.declared.Sizes.{Sizes}
use Rattle.lenses.specs.Ready.{Ready}
use Rattle.lenses.specs.Storable.{Storable}
use Rattle.lenses.specs.ReadyLaws.{right_storable, keeping_run, keeping_again, keeping_length, ready_kept}

pub record Holding (w v : List ℤ) (r : Run) : Type 0 where
  pub is : v ≡ keeping w r
  pub fit : Storable (fields_in w) r

module _ {w : List ℤ} {s : Sizes} (y : Ready w s) where
  pub holding_first : Holding w w (run_in w)
  holding_first = record { is = sym (stored_same w y.right); fit = right_storable w y.right }

  module _ {v : List ℤ} {r : Run} (h : Holding w v r) where
    pub holding_run : run_in v ≡ r
    holding_run = ap run_in h.is ∙ keeping_run w y.right r h.fit

    pub holding_ready : Ready v s
    holding_ready = rw h.is (ready_kept w y.right r h.fit y)

    pub holding_length : length v ≡ length w
    holding_length = ap (λ (l : List ℤ). length l) h.is ∙ keeping_length w y.right r h.fit

    pub holding_next : {u : List ℤ} (F : Run → Run) → u ≡ keeping v (F (run_in v)) → Storable (fields_in w) (F r) → Holding w u (F r)
    holding_next F e f =
        record {
          is = e ∙ ap (λ (q : Run). keeping v (F q)) holding_run ∙ ap (λ (l : List ℤ). keeping l (F r)) h.is ∙ keeping_again w y.right r h.fit (F r);
          fit = f;
        }
