-- What the proofs of the functions share: Rows (the lines of the processes, one by one).
pub mod Rows
