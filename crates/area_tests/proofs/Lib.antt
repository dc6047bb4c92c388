-- Laws that the proofs of code share: Loading (the fields copied into bytes), Whole (the whole test by the ways of the code), Copied
-- (what is found of the bytes, said of the area).
pub mod Loading
pub mod Whole
pub mod Copied
