-- Laws that the proofs of code share: Kept (what a change keeps of a tested area), Turns (running on, turn by turn).
pub mod Kept
pub mod Turns
