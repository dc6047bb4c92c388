-- Laws that the proofs of code share: Words (a word of a set as the code reads and puts it, and the lowest of two words).
pub mod Words
