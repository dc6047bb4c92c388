-- What a reader must believe of wait tables: Table (the fields and what they are called), Layout (01's section "Wait table" and the
-- rows of "Refused because of the input"), Reading (the tests in the order that the code follows), Walking (a walk along a chain),
-- Waits (what all later work cites), Chains (chains as lists). Sound is what proofs use of an accepted table;
-- Pairs is what inner functions of the reader and the writer promise; ChainFacts and ReadingFacts have what laws of chains and of reading say.
-- Laws stand apart: TableLaws (fields, sizes, the test of a process), ChainLaws and ChainTestLaws (the test of row 6), LayoutLaws (reading
-- is what the layout says), ReadingLaws and WalkingLaws (what an answer tells), WaitsLaws (the waits of a table), MetLaws (the chains of a right table),
-- PairLaws.
pub mod Table
pub mod Waits
pub mod Sound
pub mod Layout
pub mod Reading
pub mod Walking
pub mod Chains
pub mod Pairs
pub mod ChainFacts
pub mod ReadingFacts
pub mod TableLaws
pub mod ChainLaws
pub mod ChainTestLaws
pub mod ReadingLaws
pub mod WalkingLaws
pub mod LayoutLaws
pub mod WaitsLaws
pub mod MetLaws
pub mod PairLaws
