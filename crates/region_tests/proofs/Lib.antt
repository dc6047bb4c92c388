-- Laws that the proofs of code share: Ways (the tests in the parts that the code makes).
pub mod Ways
