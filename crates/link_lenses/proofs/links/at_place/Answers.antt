-- `link_lenses::links::at_place` meets its contract: nothing waits where the first word is 0, no message stands at a place whose word is 0 or that
-- has none, and else the word of the place is the message's.
use Rattle.std.proofs.Common.{⊎_elim, ◌<◌, ◌≡◌, ap, ◌∙◌, inl, inr, arith}
use Rattle.steps.proofs.Counts.{signed_back}
use Rattle.areas.specs.Area.{message_of}
use Rattle.areas.proofs.Signs.{word_none, word_some, counts_read}
use Rattle.std.specs.Prelude.{Ok}
use Rattle.link_lenses.proofs.LinkStores.{link_small, link_within}
use Rattle.link_lenses.proofs.LinkLookups.{none_here, beyond_here, empty_here, word_counts, message_here}
use Rattle.link_lenses.proofs.links.at_place.Goals as goal

pub offset_bounds-area-link : goal.offset_bounds-area-link
offset_bounds-area-link c = omega (arith, link_small c.args.area.ready c.requires)

pub bounds-area-link : goal.bounds-area-link
bounds-area-link c = omega (arith, link_within c.args.area.ready c.requires)

pub returns-then-area-link-eq0 : goal.returns-then-area-link-eq0
returns-then-area-link-eq0 c = none_here c.args.area.ready c.requires c.args.place (word_none _ (omega arith) c.if-area-link-eq0.true)

pub returns-then-place-eq0 : goal.returns-then-place-eq0
returns-then-place-eq0 c =
    beyond_here c.args.area.ready c.requires (word_some _ c.if-area-link-eq0.false) c.args.place
    (⊎_elim (λ (e : c.args.place ≡ 0). inl e) (λ (g : (c.args.place ≡ 0 → ⊥) × (4 < c.args.place)). inr g.1) c.then-place-eq0.either)

pub bounds-area-link-2 : goal.bounds-area-link-2
bounds-area-link-2 c = omega (arith, link_within c.args.area.ready c.requires, c.if-place-gt-LINK_SLOTS.false)

pub returns-then-word-eq0 : goal.returns-then-word-eq0
returns-then-word-eq0 c =
    empty_here c.args.area.ready c.requires (word_some _ c.if-area-link-eq0.false) c.args.place c.if-place-eq0.false c.if-place-gt-LINK_SLOTS.false
    (word_none _ (omega arith) c.if-word-eq0.true)

pub message_of-requires : goal.message_of-requires
message_of-requires c =
    counts_read _ (omega arith)
    (word_counts c.args.area.ready c.requires (word_some _ c.if-area-link-eq0.false) c.args.place c.if-place-eq0.false c.if-place-gt-LINK_SLOTS.false (word_some _ c.if-word-eq0.false))

pub returns : goal.returns
returns c =
    ap Ok (c.message_of.ensures ∙ ap message_of (signed_back _ (omega arith)))
    ∙ message_here c.args.area.ready c.requires (word_some _ c.if-area-link-eq0.false) c.args.place c.if-place-eq0.false c.if-place-gt-LINK_SLOTS.false (word_some _ c.if-word-eq0.false)
