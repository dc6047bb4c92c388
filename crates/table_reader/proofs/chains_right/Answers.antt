-- `table_reader::chains_right` meets its contract: before process p the chains of 1 to p - 1 leave the arcs that the code counts.
use Rattle.std.proofs.Common.{◌+◌, sym, ap, ◌∙◌, arith}
use Rattle.tables.specs.Reading.{left}
use Rattle.table_reader.proofs.Chains.{walked_to_none, walked_to_more, chains_right_stop, chains_right_last}
use Rattle.table_reader.proofs.chains_right.Goals.{else-loop-p-test, then-loop-p-test+in-Some+else-p-p-end}
use Rattle.table_reader.proofs.chains_right.Goals as goal

pub loop-p-init : goal.loop-p-init
loop-p-init c = (omega arith, walked_to_none _ _ ∙ ap left (sym c.requires.holds_table.arcs))

pub returns-in_default : goal.returns-in_default
returns-in_default c =
    sym (chains_right_stop _ _ _ _ (omega arith) c.loop-p.invariant.1 _ c.walk_chain.ensures (omega arith) c.in_default.is)

pub loop-p-preserved : goal.loop-p-preserved
loop-p-preserved c = (
  omega arith,
  walked_to_more _ _ _ _ (omega arith) c.loop-p.invariant.1 _ c.walk_chain.ensures _
      c.in-Some.is,
)

-- the chains of 1 to N are followed: there were none, or that of the last was
pub returns : goal.returns
returns c =
    elim c.loop-p-test.branch [
      | else-loop-p-test w ↦
          rw w.arcs-is (sym (chains_right_last _ _ c.loop-p.p _ (omega (arith, w.loop-p-test.false)) c.loop-p.invariant.1))
      | then-loop-p-test+in-Some+else-p-p-end w ↦
          rw w.arcs-is (sym (chains_right_last _ _ (c.loop-p.p + 1) _ (omega arith)
          (walked_to_more _ _ _ _ (omega arith) c.loop-p.invariant.1 _ w.walk_chain.ensures _ w.in-Some.is)))
    ]
