-- What a reader must believe of the writer: Writing (what it checks and writes), Refusals (each refusal in 01's words). Putting has what inner
-- functions promise; Largest has a list of pairs for any M.
-- Laws stand apart: WritingLaws (what is written is accepted, and read as the same waits), NumberLaws and RefusalLaws (the checks), FrontLaws
-- and FrontChainLaws (arcs put at the front of their chains), BytesLaws (fields as bytes), LargestLaws (tables of N 128 and every M are
-- accepted).
pub mod Writing
pub mod Refusals
pub mod Putting
pub mod FrontLaws
pub mod BytesLaws
pub mod FrontChainLaws
pub mod NumberLaws
pub mod WritingLaws
pub mod RefusalLaws
pub mod Largest
pub mod LargestLaws
