-- What a reader must believe of reading cases: Cases (the words of a case, and the steps taken).
pub mod Cases
