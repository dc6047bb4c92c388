-- `link_lenses::links::has_free` meets its contract: so many slots are free exactly if the first of them is 0.
use Rattle.std.proofs.Common.{◌+◌, ◌-◌, ◌≡◌, sym, arith, le-leb, eqb, leb, pos, length, get_or, w32, of_z}
use borrow.Author.Tests.{lt-leb}
use Rattle.base.specs.ChoiceLaws.{same?}
use Rattle.base.specs.Checks.{Same, same, apart}
use Rattle.areas.specs.Used.{link_slots}
use Rattle.areas.specs.Area.{run_in}
use Rattle.areas.proofs.Signs.{word_none, word_some}
use Rattle.link_lenses.proofs.LinkStores.{link_small, link_within}
use Rattle.link_lenses.proofs.LinkLookups.{free_here, full_here}
use Rattle.link_lenses.proofs.links.has_free.Goals as goal

pub overflow_add-result : goal.overflow_add-result
overflow_add-result c = omega (arith, link_small c.args.area.ready c.requires.linked)

pub offset_bounds-area-link : goal.offset_bounds-area-link
offset_bounds-area-link c = omega (arith, link_small c.args.area.ready c.requires.linked)

pub bounds-area-link : goal.bounds-area-link
bounds-area-link c = omega (arith, c.requires.some_slots, link_within c.args.area.ready c.requires.linked)

pub returns : goal.returns
returns c =
    at (same? (of_z w32 (get_or c.args.area.words.now (c.args.link.at + (link_slots - c.args.free)) (pos 0))) 0)
  where
    at : Same (of_z w32 (get_or c.args.area.words.now (c.args.link.at + (link_slots - c.args.free)) (pos 0))) 0
        → eqb (of_z w32 (get_or c.args.area.words.now (c.args.link.at + (link_slots - c.args.free)) (pos 0))) 0
        ≡ leb (length ((run_in c.args.area.words.now).link c.args.link.from c.args.link.to) + c.args.free) link_slots
    at (same e q) =
        rw q (sym (le-leb _ _ (free_here c.args.area.ready c.requires.linked c.args.free c.requires.some_slots.0 c.requires.some_slots.1 (word_none _ (omega arith) e))))
    at (apart e q) =
        rw q (sym (lt-leb _ _ (full_here c.args.area.ready c.requires.linked c.args.free c.requires.some_slots.0 c.requires.some_slots.1 (word_some _ e))))
