-- The way out, process by process.
--   way_out_found, way_out_first, way_out_none   == a way out was found before; this is the first; there is none yet
-- Assumes nothing.
use Rattle.std.specs.Prelude.{ℕ, zero, suc, ◌≡◌, refl}
use Rattle.std.proofs.Common.{eq-eqb, ne_eqb}
use Rattle.steps.specs.declared.Process.{Process}
use Rattle.report_parts.specs.Told.{way_out}

module _ (e : ℕ) (x : Process) (p : ℕ) where
  pub way_out_found : (e ≡ 0 → ⊥) → e ≡ way_out e x p
  way_out_found h = at e h
    where
      at : (e : ℕ) → (e ≡ 0 → ⊥) → e ≡ way_out e x p
      at zero h = absurd (h refl)
      at (suc e) h = refl

  pub way_out_first : e ≡ 0 → x.subordinate ≡ 1 → p ≡ way_out e x p
  way_out_first z f = rw (z, eq-eqb x.subordinate 1 f)

  pub way_out_none : e ≡ 0 → (x.subordinate ≡ 1 → ⊥) → e ≡ way_out e x p
  way_out_none z f = rw (z, ne_eqb x.subordinate 1 f)
