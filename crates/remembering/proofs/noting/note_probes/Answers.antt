-- `remembering::noting::note_probes` meets its contract: in each case the probes go where the broadcast goes.
use Rattle.std.proofs.Common.{ℕ, List, ◌≡◌}
use Rattle.tables.specs.declared.Chain.TheVariants.{Out, In}
use Rattle.tables.specs.Waits.{Waits}
use Rattle.tables.specs.Chains.{joins}
use Rattle.steps.specs.declared.Probes.{Probes}
use Rattle.steps.specs.declared.Probes.TheVariants.{Sucs, Pres}
use Rattle.areas.specs.Area.{run_in}
use Rattle.preparing.specs.Receiving.{probes_go}
use Rattle.marks.specs.Changes.{Turns}
use Rattle.remembering.specs.Noting.{sent_marks}
use Rattle.remembering.proofs.Following.{sent_nobody}
use Rattle.remembering.proofs.noting.note_probes.Goals as goal

module _ (w : Waits) (b : ℕ) {y : Probes} {l : List ℕ} where
  nothing : y ≡ Probes.Nothing → Turns l (λ held. sent_marks held b (probes_go w y b)) l
  nothing e = rw e (sent_nobody b)

  module _ {k : List ℕ} where
    sucs : y ≡ Sucs → Turns l (λ held. sent_marks held b (joins Out w b)) k → Turns l (λ held. sent_marks held b (probes_go w y b)) k
    sucs e t = rw e t

    pres : y ≡ Pres → Turns l (λ held. sent_marks held b (joins In w b)) k → Turns l (λ held. sent_marks held b (probes_go w y b)) k
    pres e t = rw e t

pub returns-in-Nothing : goal.returns-in-Nothing
returns-in-Nothing c = let a = c.args in nothing (run_in a.area.words.now).waits a.b c.in-Nothing.is

pub returns-in-Sucs : goal.returns-in-Sucs
returns-in-Sucs c =
    let a = c.args in
    sucs (run_in a.area.words.now).waits a.b c.in-Sucs.is c.note_chain.ensures

pub returns-in-Pres : goal.returns-in-Pres
returns-in-Pres c =
    let a = c.args in
    pres (run_in a.area.words.now).waits a.b c.in-Pres.is c.note_chain-in-Pres.ensures
