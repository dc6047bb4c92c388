-- What a reader must believe of the calls: AreaCalls (what each call does to an area: the calls of `checks`, read from the words and stored
-- in them; lists of calls, and what is promised of every list). CallLaws: each call by the first thing that is met, and lists of them.
-- TestedLaws: what the test of an area says to a call.
pub mod AreaCalls
pub mod CallLaws
pub mod TestedLaws
