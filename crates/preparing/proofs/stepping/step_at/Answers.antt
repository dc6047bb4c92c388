-- `preparing::stepping::step_at` meets its contract: the record, the degrees and the sender are those of the run.
use Rattle.std.proofs.Common.{ℕ, ◌≤◌, true, List, ◌≡◌, sym, ap, ◌∙◌, arith, ne_eqb, ℤ, Result}
use Rattle.tables.specs.Table.{most_processes, IsProcess}
use Rattle.tables.specs.Waits.{out_degree, in_degree}
use Rattle.steps.specs.declared.Message.{Message}
use Rattle.steps.specs.declared.Process.{Process}
use Rattle.refusals.specs.declared.Refusal.{Refusal}
use Rattle.steps.specs.Step.{Turn, count_small, lent_in_range, stepped}
use Rattle.areas.specs.Area.{run_in}
use Rattle.tables.specs.declared.Sizes.{Sizes}
use Rattle.lenses.specs.Ready.{Ready}
use Rattle.lenses.specs.ReadyLaws.{right_storable, ready_n, ready_sizes}
use Rattle.steps.specs.Effect.{out_needed, in_needed}
use Rattle.preparing.specs.LentLaws.{out_degree_most, in_degree_most, lent}
use Rattle.steps.specs.StepLaws.{lent_needed, stepped_needed}
use Rattle.lenses.proofs.Lookups.{process_right}
use Rattle.preparing.proofs.stepping.step_at.Goals as goal

-- the step by the degrees that it needs, of which no other is known
module _ {w : List ℤ} {z : Sizes} (y : Ready w z) (v : Message) (b : ℕ) (k : IsProcess z.n b) {x : Process}
    (e : x ≡ (run_in w).process b) {o i : ℕ} (f : o ≡ out_needed v x (out_degree (run_in w).waits b))
    (g : i ≡ in_needed v x (in_degree (run_in w).waits b)) where
  abbrev out : ℕ
  out = out_degree (run_in w).waits b

  abbrev into : ℕ
  into = in_degree (run_in w).waits b

  out_few : out ≤ most_processes
  out_few = omega (arith, out_degree_most (run_in w).waits b, (right_storable w y.right).sound.few)

  in_few : into ≤ most_processes
  in_few = omega (arith, in_degree_most (run_in w).waits b, (right_storable w y.right).sound.few)

  in_range_is : count_small v ≡ true → lent_in_range v o i x ≡ true
  in_range_is c =
      let h = right_storable w y.right in
      rw (f, g)
      (lent_needed v out into x out_few in_few ∙ ap (lent_in_range v out into) e
      ∙ lent (run_in w) h.formed h.sound b (k.0, omega (arith, k.1, ready_n y)) v c)

  step_is : (p : ℕ) {r : Result Turn Refusal} → r ≡ stepped v o i p x → r ≡ stepped v out into p ((run_in w).process b)
  step_is p h =
      h ∙ rw (f, g) (stepped_needed v out into p x out_few in_few) ∙ ap (stepped v out into p) e

pub overflow_cast-a : goal.overflow_cast-a
overflow_cast-a c = omega (arith, ready_sizes c.args.area.ready, c.requires.a_is_process)

pub start_step-requires-clause-process_fits : goal.start_step-requires-clause-process_fits
start_step-requires-clause-process_fits c =
    rw c.process-x.ensures (process_right c.args.area.ready c.args.b c.requires.b_is_process.0 c.requires.b_is_process.1)

pub overflow_cast-a-2 : goal.overflow_cast-a-2
overflow_cast-a-2 c = omega (arith, ready_sizes c.args.area.ready, c.requires.a_is_process)

pub other_step-requires-clause-lent_fits : goal.other_step-requires-clause-lent_fits
other_step-requires-clause-lent_fits c =
    in_range_is c.args.area.ready c.args.message c.args.b c.requires.b_is_process c.process-x.ensures c.needed-out_degree.ensures
    c.needed-in_degree.ensures c.requires.small_counts

pub other_step-requires-clause-sender_is_process : goal.other_step-requires-clause-sender_is_process
other_step-requires-clause-sender_is_process c = (c.requires.a_is_process.0, omega (arith, ready_sizes c.args.area.ready, c.requires.a_is_process))

pub returns : goal.returns
returns c =
    rw (ne_eqb c.args.b (run_in c.args.area.words.now).start (λ e. c.if-b-start.false (e ∙ sym c.start.ensures)))
    (step_is c.args.area.ready c.args.message c.args.b c.requires.b_is_process c.process-x.ensures c.needed-out_degree.ensures
    c.needed-in_degree.ensures c.args.a c.other_step.ensures)
