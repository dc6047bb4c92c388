-- What a reader must believe of the check program's input: Input (how it is split, which numbers refuse it, and what beginning leaves).
-- InputLaws: each number in 01's words, the part that the table takes, "then 4 to 8", and what beginning comes to.
pub mod Input
pub mod InputLaws
