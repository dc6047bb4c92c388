-- `link_lenses::links::take` meets its contract: the link stands inside the area, and its words from the place on, one further on, are those of what stays.
use Rattle.std.proofs.Common.{ℕ, ◌+◌, ◌-◌, ◌≡◌, ◌∙◌, subst, arith}
use Rattle.areas.specs.Used.{link_slots}
use Rattle.areas.specs.Writes.{Packed}
use Rattle.link_lenses.proofs.LinkStores.{link_small, link_within, link_packed, store_take}
use Rattle.link_lenses.proofs.links.take.Goals as goal

pub overflow_add-link : goal.overflow_add-link
overflow_add-link c = omega (arith, c.requires.is_slot, link_small c.requires.ready c.requires.linked)

pub overflow_add-link-2 : goal.overflow_add-link-2
overflow_add-link-2 c = omega (arith, link_small c.requires.ready c.requires.linked)

pub take_off-requires-clause-end_in_bounds : goal.take_off-requires-clause-end_in_bounds
take_off-requires-clause-end_in_bounds c = link_within c.requires.ready c.requires.linked

pub take_off-requires-clause-packed : goal.take_off-requires-clause-packed
take_off-requires-clause-packed c =
    let a = c.args in
    let e : a.link.at + (a.place - 1) ≡ a.link.at + a.place - 1 = omega (arith, c.requires.is_slot) in
    subst (λ (j : ℕ). Packed a.area.now j (a.link.at + link_slots)) e (link_packed c.requires.ready c.requires.linked (a.place - 1))

pub returns : goal.returns
returns c = c.take_off.ensures ∙ store_take c.requires.ready c.requires.linked _ c.requires.is_slot
