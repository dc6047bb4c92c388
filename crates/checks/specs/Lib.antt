-- What a reader must believe of a knot check: Run (its rules), Calls (what each call does and answers), Reach (who reaches whom, and the
-- number D), Lists (what is said of any list of calls), InWords (the end of a check in the words of the relation). Laws stand apart: SentLaws
-- (what a step puts on links), RunLaws (the receiver's step and a well-formed run), AnswerLaws (answers, and that 21 comes first), and in proofs
-- ReachLaws (the tests of who reaches whom).
pub mod Run
pub mod Calls
pub mod Reach
pub mod Lists
pub mod InWords
pub mod SentLaws
pub mod RunLaws
pub mod AnswerLaws
