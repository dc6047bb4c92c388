-- `link_lenses::links::push` meets its contract: the link stands inside the area and has room, and the word goes behind its messages.
use Rattle.std.proofs.Common.{◌∙◌}
use Rattle.steps.proofs.Counts.{signed_back}
use Rattle.link_lenses.proofs.LinkStores.{link_within, link_room, store_push}
use Rattle.link_lenses.proofs.links.push.Goals as goal

pub put_on-requires-clause-slots_in_bounds : goal.put_on-requires-clause-slots_in_bounds
put_on-requires-clause-slots_in_bounds c = link_within c.requires.ready c.requires.linked

pub put_on-requires-clause-slots_len_bound : goal.put_on-requires-clause-slots_len_bound
put_on-requires-clause-slots_len_bound c = link_room c.requires.ready c.requires.linked c.requires.has_slot

pub returns : goal.returns
returns c =
    let code = c.code_of in
    let stored = rw (signed_back code.result code.type_inv, code.ensures) at c.put_on.ensures in
    stored ∙ store_push c.requires.ready c.requires.linked c.args.message c.requires.has_slot
