-- What a reader must believe of the program's output: Text; Examples computes 01's example from it. Adding is what the functions
-- promise of the bytes that they are lent; TextLaws and AddingLaws have the laws, LengthLaws how long lines are at most.
pub mod Text
pub mod Examples
pub mod Adding
pub mod TextLaws
pub mod AddingLaws
pub mod LengthLaws
