-- How many bytes a reading got: Taken.
pub mod Taken
