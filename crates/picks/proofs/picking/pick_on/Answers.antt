-- `picks::picking::pick_on` meets its contract: each way out is a law of CallLaws.
use Rattle.std.proofs.Common.{sym, ◌∙◌}
use Rattle.lenses.specs.ReadyLaws.{ready_near}
use Rattle.area_calls.specs.CallLaws.{pick_23, pick_on}
use Rattle.picks.proofs.picking.pick_on.Goals as goal

pub returns-then-is_over : goal.returns-then-is_over
returns-then-is_over c =
    let h = pick_23 _ c.requires.ready.right _ _ _ (ready_near _ _ _ c.requires.neighbours) (sym c.is_over.ensures ∙ c.if-is_over.true) in
    record { answer = h.0; area_after = h.1 }

pub returns : goal.returns
returns c =
    let h = pick_on _ c.requires.ready.right _ _ _ (ready_near _ _ _ c.requires.neighbours) (sym c.is_over.ensures ∙ c.if-is_over.false) in
    record { answer = c.deliver.ensures.told ∙ h.0; area_after = c.deliver.ensures.area_after ∙ h.1 }
