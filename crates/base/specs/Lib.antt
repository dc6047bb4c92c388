-- Plain mathematics that every floor above uses: Choice (by a test), Sums (sums, tests and searches over 1 to n), Counts (in a list), Checks (a test
-- with its two meanings), Parts (of an integer, above and below zero). Laws stand apart, in modules named after these;
-- PrefixLaws serves loops that test 1 to n in turn.
-- Assumes nothing.
pub mod Choice
pub mod Sums
pub mod Counts
pub mod Checks
pub mod Parts
pub mod ChoiceLaws
pub mod SumLaws
pub mod CountLaws
pub mod CheckLaws
pub mod PartLaws
pub mod PrefixLaws
