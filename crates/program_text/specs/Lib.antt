-- What the check program prints: Program (everything, as one function of the input's bytes) and Longest (how long it may be). Examples computes 01's
-- example and others from it. Own: lines as a course of deliveries of the program's own. OwnLaws, ProgramLaws, LongestLaws: that the program's
-- lines are such; the start of a begun input, and that its check is over at the end; how long the output is at most.
pub mod Program
pub mod Longest
pub mod Examples
pub mod Own
pub mod OwnLaws
pub mod ProgramLaws
pub mod LongestLaws
