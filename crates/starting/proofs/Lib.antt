-- Laws that the proofs of code share: Answers (each way out of a start).
pub mod Answers
