-- Calls keep a run within its area, and well formed: for any well-formed run, whether start made it or not.
--   storable_after, storable_made   == kept by one accepted delivery, and by any number of them
--   storable_pick, storable_on   == kept by a pick, and by a delivery on a chosen link
--   storable_run_on, storable_shuffled   == kept by running on, without a seed and with one
--   waiting_joined   == a message waits only between neighbours
-- Assumes nothing.
use Rattle.std.specs.Prelude.{ℕ, List, ◌≡◌}
use Rattle.std.proofs.Math.Bool.{true}
use Rattle.std.proofs.lemmas.Bool.{false≢true}
use Rattle.base.specs.ChoiceLaws.{tested}
use Rattle.base.specs.Checks.{Tested, passed, failed}
use Rattle.tables.specs.Table.{Fields, IsProcess}
use Rattle.tables.specs.Waits.{neighbours}
use Rattle.machine.specs.Machine as Machines
use Rattle.machine.specs.Calls.{Selection, pair, waiting}
use Rattle.machine.proofs.ChooserLaws.{fixed_order_finds}
use Rattle.machine.specs.Among.{Among}
use Rattle.machine.specs.AmongLaws.{among_waiting}
use Rattle.machine.specs.FormedLaws.{well_formed_P}
use Rattle.machine.specs.Made.{Made}
use Rattle.machine.proofs.MadeLaws.{made_keeps, deliver_on_made, pick_made, run_on_made, run_shuffled_made}
use Rattle.steps.specs.declared.Message.{Message}
use Rattle.checks.specs.Run.{Run, knot, after, accepts}
use Rattle.checks.specs.Calls.{pick, deliver_on, run_on, run_shuffled}
use Rattle.checks.specs.RunLaws.{knot_after}
use Rattle.areas.specs.Contained.{Contained}
use Rattle.areas.specs.ContainedLaws.{contained_joined}
use Rattle.lenses.specs.Storable.{Storable}
use Rattle.delivery.specs.ContainedLaws.{contained_after}

module _ (t : Fields) where
  -- a message waits only between neighbours
  pub waiting_joined : (r : Run) → Contained t r → (a b : ℕ) → waiting (r.link a b) ≡ true → neighbours r.waits a b ≡ true
  waiting_joined r h a b e = at (tested (neighbours r.waits a b))
    where
      at : Tested (neighbours r.waits a b) → neighbours r.waits a b ≡ true
      at (passed n) = n
      at (failed n) = absurd (false≢true (rw (contained_joined t r h a b n) at e))

  storable_after :
      (r : Run) → Storable t r → (a b : ℕ) (m : Message) (rest : List Message) → Among m rest (r.link a b) → accepts r a b m rest ≡ true →
      Storable t (after r a b m rest)
  unfolding Machines.after
  storable_after r f a b m rest l e =
      let j : neighbours r.waits a b ≡ true = waiting_joined r f.held a b (among_waiting l) in
      let h = (well_formed_P knot r).0 f.formed in
      record {
        held = contained_after t r f.held h f.sound a b j m rest l e;
        formed = (well_formed_P knot (after r a b m rest)).1 (knot_after r a b m rest e h f.sound j l);
        sound = f.sound;
      }

  storable_made : (r : Run) → Storable t r → {k : ℕ} {q : Run} → Made knot r k q → Storable t q
  storable_made r f d = made_keeps (Storable t) (λ q g a b _ _ m rest l e. storable_after q g a b m rest l e) f d

  pub storable_pick : (r : Run) → Storable t r → (a b k : ℕ) → Storable t (pick r a b k).run
  storable_pick r f a b k = storable_made r f (pick_made knot r f.sound a b k)

  -- one delivery on a chosen link between processes, in any order
  pub storable_on : (r : Run) → Storable t r → (c : Selection) → ((a b : ℕ) → c ≡ pair a b → IsProcess r.waits.n a × IsProcess r.waits.n b)
      → Storable t (deliver_on r c).run
  storable_on r f c finds = storable_made r f (deliver_on_made knot r c finds).made

  pub storable_run_on : (k : ℕ) (r : Run) → Storable t r → Storable t (run_on k r).run
  storable_run_on k r f = storable_made r f (run_on_made knot _ fixed_order_finds k 0 r)

  pub storable_shuffled : (k seed : ℕ) (r : Run) → Storable t r → Storable t (run_shuffled k seed r).run
  storable_shuffled k seed r f = storable_made r f (run_shuffled_made knot k seed r)
