-- Laws that the proofs of code share, each over plain numbers and fields.
pub mod Steps
pub mod Checks
pub mod Chains
pub mod Clashes
pub mod Numbers
pub mod Answers
pub mod Opening
