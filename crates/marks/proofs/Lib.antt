-- Laws that the proofs of code share: Marking (one link marked, or no longer marked).
pub mod Marking
