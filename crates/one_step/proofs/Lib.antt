-- Laws that the proofs of code share: Turning (what the rules of a turn ask and leave, and how its answer is put together).
pub mod Turning
