-- AreaEnding is demand 3 for the calls on lent words, and AreaEndingLaws has what follows from it. ListLaws: calls on an area are calls on the
-- run that it holds. Repeated says when two lists of calls came to the same, and RepeatedLaws that the same list always does (02, N13). What
-- the calls do, and what is promised of every list of them, stands in the crate area_calls.
pub mod ListLaws
pub mod AreaEnding
pub mod AreaEndingLaws
pub mod Repeated
pub mod RepeatedLaws
