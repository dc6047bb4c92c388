-- `region_tests::Region::are_arcs` meets its contract. The loop's invariant: the links of the arcs before k pass. The measure is what is left.
use Rattle.std.proofs.Common.{sym, arith, ◌∙◌}
use Rattle.base.specs.PrefixLaws.{all_to_none, all_to_more, all_to_stop, all_to_end, all_to_last}
use Rattle.region_tests.proofs.Region.are_arcs.Goals as goal

pub loop-k-init : goal.loop-k-init
loop-k-init c = (omega arith, omega arith, all_to_none _)

pub returns-then-not-is_arc : goal.returns-then-not-is_arc
returns-then-not-is_arc c = sym (all_to_stop _ _ _ (omega arith) (omega arith) (sym c.is_arc.ensures ∙ c.if-not-is_arc.true))

pub loop-k-preserved : goal.loop-k-preserved
loop-k-preserved c =
    (omega arith, omega arith, all_to_more _ _ (omega arith) c.loop-k.invariant.2 (sym c.is_arc.ensures ∙ c.if-not-is_arc.false))

pub returns-else-not-is_arc : goal.returns-else-not-is_arc
returns-else-not-is_arc c =
    sym (all_to_end _ _ _ (omega arith) (omega arith) c.loop-k.invariant.2 (sym c.is_arc.ensures ∙ c.if-not-is_arc.false))

pub returns : goal.returns
returns c = sym (all_to_last _ _ _ (omega arith) c.loop-k.invariant.2)
