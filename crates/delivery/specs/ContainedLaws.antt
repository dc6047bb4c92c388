-- An accepted delivery keeps a run within its area.
--   contained_after   == a run that the area of a table holds is kept so
-- Assumes nothing.
use Rattle.std.specs.Prelude.{ℕ, true, ◌≡◌, eqb}
use Rattle.std.proofs.Math.Bool.{false}
use Rattle.std.proofs.lemmas.Bool.{false≢true}
use mathlib.Core.List.{List, []}
use Rattle.std.proofs.Common.{sym, ap, ◌∙◌, subst, arith}
use Rattle.tables.specs.TableLaws.{is_process_P}
use Rattle.base.specs.Choice.{choose}
use Rattle.base.specs.ChoiceLaws.{same?}
use Rattle.base.specs.Checks.{Same, same, apart}
use Rattle.tables.specs.Table.{Fields, n_of, is_process}
use Rattle.tables.specs.Waits.{Waits, waits_of, neighbours}
use Rattle.tables.specs.Sound.{Sound}
use Rattle.tables.specs.WaitsLaws.{neighbours_ends}
use Rattle.machine.specs.Machine.{taken}
use Rattle.machine.specs.Machine as Machines
use Rattle.machine.specs.Among.{Among}
use Rattle.machine.specs.Formed.{Formed}
use Rattle.machine.specs.FormedLaws.{taken_empty}
use Rattle.steps.specs.declared.Message.{Message}
use Rattle.steps.specs.Step.{idle}
use Rattle.checks.specs.Run.{Run, knot, turn_at, after, accepts}
use Rattle.checks.specs.RunLaws.{nothing_sent}
use Rattle.areas.specs.Contained.{Contained}
use Rattle.areas.specs.ContainedLaws.{contained_joined}

module _ (t : Fields) (r : Run) (hd : Contained t r) (h : Formed knot r) (sd : Sound r.waits) (a b : ℕ) (j : neighbours r.waits a b ≡ true)
    (m : Message) (rest : List Message) (l : Among m rest (r.link a b)) (ok : accepts r a b m rest ≡ true) where
  pub contained_after : Contained t (after r a b m rest)
  unfolding Machines.after waits_of
  contained_after =
      record {
        waits = hd.waits;
        processes = λ p e. proc p e (same? p b);
        links = λ x y e. none x y (subst (λ (w : Waits). neighbours w x y ≡ false) (sym hd.waits) e) (same? x b);
      }
    where
      none_taken : (x y : ℕ) → neighbours r.waits x y ≡ false → taken r a b rest x y ≡ []
      none_taken x y n = taken_empty r a b m rest l x y (contained_joined t r hd x y n)

      size : r.waits.n ≡ n_of t
      size = ap (λ (w : Waits). w.n) hd.waits

      proc : (p : ℕ) → is_process (n_of t) p ≡ false → Same p b → choose (eqb p b) (turn_at r a b m).process (r.process p) ≡ idle
      proc p e (same f g) =
          let i = neighbours_ends r.waits sd a b j in
          absurd (false≢true (sym e ∙ (is_process_P (n_of t) p).1 (omega (arith, i.2), omega (arith, i.3, size))))
      proc p e (apart f g) = rw g (hd.processes p e)

      none : (x y : ℕ) → neighbours r.waits x y ≡ false → Same x b → (after r a b m rest).link x y ≡ []
      none x y n (same f g) = rw (g, none_taken x y n) (nothing_sent r a b m rest ok h sd j y (rw f at n))
      none x y n (apart f g) = rw (g, none_taken x y n)
