-- Laws that the proofs of code share, each over plain numbers and fields.
pub mod ByPairs
pub mod Unlike
pub mod Answers
pub mod PuttingLaws
