-- `walks::stand_after` meets its contract: before each turn of the loop the walk stands where the turns that were made lead from its opening.
use Rattle.std.proofs.Common.{ℕ, Option, ◌+◌, ◌≡◌, refl, sym, ap, ◌∙◌, arith, add-one}
use Rattle.walks.specs.declared.Walk.{Walk}
use Rattle.walks.specs.declared.Stood.{Stood}
use Rattle.walks.specs.Walk.{gives, stepped_walk, steps_on, stood_after}
use Rattle.walks.specs.WalkLaws.{keeps, steps_on_next}
use Rattle.walks.proofs.stand_after.Goals as goal

-- one turn more
turned : (i : ℕ) (first here there : Walk) → here ≡ steps_on i first → there ≡ stepped_walk here → there ≡ steps_on (i + 1) first
turned i first here there e f = f ∙ ap stepped_walk e ∙ sym (rw add-one (steps_on_next i first))

-- what is seen of the walk after the last turn
seen : (i : ℕ) (first here there : Walk) (next : Option ℕ) → here ≡ steps_on i first → next ≡ gives here → there ≡ stepped_walk here
    → ◌≡◌ {A = Stood} (record { number = there.number; arc = here.arc; next = next; then = there.arc }) (stood_after i first)
seen i first here there next e f g = rw (f, g, e, (keeps i first).2) refl

pub loop-init : goal.loop-init
unfolding steps_on
loop-init c = refl

pub loop-preserved : goal.loop-preserved
loop-preserved c = turned c.loop.counter c.open_walk-w.result c.loop.w c.step.new.w c.loop.invariant c.step.ensures.1

pub returns : goal.returns
returns c =
    let end : c.loop.counter ≡ c.args.steps = omega arith in
    let w = c.loop.invariant in
    seen c.loop.counter c.open_walk-w.result c.loop.w c.step-next.new.w c.step-next.result w c.step-next.ensures.0 c.step-next.ensures.1
    ∙ ap (λ (i : ℕ). stood_after i c.open_walk-w.result) end ∙ ap (stood_after c.args.steps) c.open_walk-w.ensures
