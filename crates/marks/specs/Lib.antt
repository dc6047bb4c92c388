-- What is remembered of the links that hold a message. What a reader must believe: Marks (what the array holds) and Changes (how the code reads
-- and changes it). Laws: MarkLaws (counts and sets) and GroupLaws (with the counts of groups, and where to begin to look).
pub mod Marks
pub mod Changes
pub mod MarkLaws
pub mod GroupLaws
