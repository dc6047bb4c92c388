-- `inputs::split` meets its contract: each way out is a law of Ways, by the tests that led there.
use Rattle.std.proofs.Common.{arith}
use Rattle.inputs.proofs.Ways.{split_13, split_1, split_2_none, split_2_many, split_2_arcs, split_3, split_12, split_0}
use Rattle.inputs.proofs.split.Goals as goal

pub returns-then-length-gt-LONGEST : goal.returns-then-length-gt-LONGEST
returns-then-length-gt-LONGEST c = split_13 _ (omega arith)

pub returns-then-length-lt8 : goal.returns-then-length-lt8
returns-then-length-lt8 c = split_1 _ c.if-length-gt-LONGEST.false c.if-length-lt8.true

pub returns-then-n-eq0 : goal.returns-then-n-eq0
returns-then-n-eq0 c =
    split_2_none _ c.if-length-gt-LONGEST.false c.if-length-lt8.false _ _ c.field-n.ensures c.field-m.ensures c.if-n-eq0.true

pub returns-then-n-gt-MOST_PROCESSES : goal.returns-then-n-gt-MOST_PROCESSES
returns-then-n-gt-MOST_PROCESSES c =
    split_2_many _ c.if-length-gt-LONGEST.false c.if-length-lt8.false _ _ c.field-n.ensures c.field-m.ensures c.if-n-gt-MOST_PROCESSES.true

pub returns-then-m-gt-MOST_ARCS : goal.returns-then-m-gt-MOST_ARCS
returns-then-m-gt-MOST_ARCS c =
    split_2_arcs _ c.if-length-gt-LONGEST.false c.if-length-lt8.false _ _ c.field-n.ensures c.field-m.ensures c.if-m-gt-MOST_ARCS.true

pub returns-then-length-end : goal.returns-then-length-end
returns-then-length-end c =
    split_3 _ c.if-length-gt-LONGEST.false c.if-length-lt8.false _ _ c.field-n.ensures c.field-m.ensures
    c.if-n-eq0.false c.if-n-gt-MOST_PROCESSES.false c.if-m-gt-MOST_ARCS.false c.if-length-end.true

pub returns-then-rest-ne0 : goal.returns-then-rest-ne0
returns-then-rest-ne0 c =
    split_12 _ c.if-length-gt-LONGEST.false c.if-length-lt8.false _ _ c.field-n.ensures c.field-m.ensures
    c.if-n-eq0.false c.if-n-gt-MOST_PROCESSES.false c.if-m-gt-MOST_ARCS.false c.if-length-end.false c.if-rest-ne0.true

pub returns : goal.returns
returns c =
    split_0 _ c.if-length-gt-LONGEST.false c.if-length-lt8.false _ _ c.field-n.ensures c.field-m.ensures
    c.if-n-eq0.false c.if-n-gt-MOST_PROCESSES.false c.if-m-gt-MOST_ARCS.false c.if-length-end.false
    _ _ c.field-start.ensures c.field-edition.ensures c.if-rest-ne0.false
