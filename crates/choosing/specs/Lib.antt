-- The orders of running on, on a tested area. What a reader must believe: Answers (what the code answers for a choice and a delivery); what is
-- remembered between deliveries is in remembering. Laws: OrderLaws (how the link at a place is found) and AnswerLaws.
pub mod Answers
pub mod OrderLaws
pub mod AnswerLaws
