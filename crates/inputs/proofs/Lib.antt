-- Laws that the proofs of code share: Told (what the answers tell to a caller), Ways (each way out of splitting and of beginning).
pub mod Told
pub mod Ways
