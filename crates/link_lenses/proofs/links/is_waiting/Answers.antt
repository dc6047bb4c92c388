-- `link_lenses::links::is_waiting` meets its contract: the first word of the link is 0 exactly if nothing waits there.
use Rattle.std.proofs.Common.{not, ◌≡◌, sym, arith, eqb, pos, get_or, w32, of_z}
use Rattle.base.specs.ChoiceLaws.{same?}
use Rattle.base.specs.Checks.{Same, same, apart}
use Rattle.machine.specs.Calls.{waiting}
use Rattle.areas.specs.Area.{run_in}
use Rattle.areas.proofs.Signs.{word_none, word_some}
use Rattle.link_lenses.proofs.LinkStores.{link_small, link_within}
use Rattle.link_lenses.proofs.LinkLookups.{waits_here, none_waits}
use Rattle.link_lenses.proofs.links.is_waiting.Goals as goal

pub offset_bounds-area-link : goal.offset_bounds-area-link
offset_bounds-area-link c = omega (arith, link_small c.args.area.ready c.requires)

pub bounds-area-link : goal.bounds-area-link
bounds-area-link c = omega (arith, link_within c.args.area.ready c.requires)

pub returns : goal.returns
returns c =
    at (same? (of_z w32 (get_or c.args.area.words.now c.args.link.at (pos 0))) 0)
  where
    at : Same (of_z w32 (get_or c.args.area.words.now c.args.link.at (pos 0))) 0
        → not (eqb (of_z w32 (get_or c.args.area.words.now c.args.link.at (pos 0))) 0)
        ≡ waiting ((run_in c.args.area.words.now).link c.args.link.from c.args.link.to)
    at (same e q) = rw q (sym (none_waits c.args.area.ready c.requires (word_none _ (omega arith) e)))
    at (apart e q) = rw q (sym (waits_here c.args.area.ready c.requires (word_some _ e)))
