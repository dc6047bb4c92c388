-- `link_lenses::sending::acknowledge` meets its contract: nothing is stored where there is no acknowledgement, and else it is put on the link to its process.
use Rattle.std.proofs.Common.{true, ◌≡◌, sym, subst, arith, leb, Option, Some}
use Rattle.base.specs.ChoiceLaws.{and_right}
use Rattle.tables.specs.Waits.{Waits, neighbours}
use Rattle.steps.specs.declared.Message.TheVariants.{Ack}
use Rattle.steps.specs.declared.Reply.{Reply}
use Rattle.steps.specs.Step.{both_small, count_small, reply_fits}
use Rattle.areas.specs.Area.{fields_in}
use Rattle.areas.specs.AreaLaws.{stored_same}
use Rattle.areas.specs.RunInLaws.{run_in_contained}
use Rattle.areas.specs.SquareLaws.{row_linked}
use Rattle.link_lenses.specs.Changes.{answered}
use Rattle.lenses.specs.ReadyLaws.{ready_sizes}
use Rattle.link_lenses.proofs.sending.acknowledge.Goals as goal

-- an acknowledgement that fits has its counts in range
counted : {y : Option Reply} {x : Reply} → y ≡ Some x → reply_fits y ≡ true → count_small (Ack x.counts) ≡ true
unfolding reply_fits count_small
counted {x = x} e h = and_right (leb 1 x.to) (both_small x.counts) (rw e at h)

pub cell_of-requires : goal.cell_of-requires
cell_of-requires c = omega (arith, (c.requires.answerable c.in-Some.reply c.in-Some.is).0, ready_sizes c.requires.ready, c.requires.row.long)

pub push-requires-clause-linked : goal.push-requires-clause-linked
push-requires-clause-linked c =
    let known = c.requires.answerable c.in-Some.reply c.in-Some.is in
    let z = ready_sizes c.requires.ready in
    row_linked (fields_in c.args.area.now) c.requires.row (omega (arith, known.0))
    (subst (λ (v : Waits). neighbours v c.args.b c.in-Some.reply.to ≡ true) (run_in_contained c.args.area.now).waits known.1) c.cell_of.ensures.is c.place-at.ensures

pub push-requires-clause-small_counts : goal.push-requires-clause-small_counts
push-requires-clause-small_counts c = counted c.in-Some.is c.requires.fits

pub returns-in-Some : goal.returns-in-Some
unfolding answered
returns-in-Some c = rw c.in-Some.is c.push.ensures

pub returns-in_default : goal.returns-in_default
unfolding answered
returns-in_default c = rw c.in_default.is (sym (stored_same c.args.area.now c.requires.ready.right))
