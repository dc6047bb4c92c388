-- `region_tests::Region::are_records` meets its contract. The loop's invariant: the records of the processes before p pass. The measure is what is left.
use Rattle.std.proofs.Common.{sym, arith, ◌∙◌}
use Rattle.base.specs.PrefixLaws.{all_to_none, all_to_more, all_to_stop, all_to_end, all_to_last}
use Rattle.region_tests.proofs.Region.are_records.Goals as goal

pub loop-p-init : goal.loop-p-init
loop-p-init c = (omega arith, omega arith, all_to_none _)

pub returns-then-not-is_record : goal.returns-then-not-is_record
returns-then-not-is_record c = sym (all_to_stop _ _ _ (omega arith) (omega arith) (sym c.is_record.ensures ∙ c.if-not-is_record.true))

pub loop-p-preserved : goal.loop-p-preserved
loop-p-preserved c =
    (omega arith, omega arith, all_to_more _ _ (omega arith) c.loop-p.invariant.2 (sym c.is_record.ensures ∙ c.if-not-is_record.false))

pub returns-else-not-is_record : goal.returns-else-not-is_record
returns-else-not-is_record c =
    sym (all_to_end _ _ _ (omega arith) (omega arith) c.loop-p.invariant.2 (sym c.is_record.ensures ∙ c.if-not-is_record.false))

pub returns : goal.returns
returns c = sym (all_to_last _ _ _ (omega arith) c.loop-p.invariant.2)
