-- What the parts of a report promise (Told), and the laws of the way out (ToldLaws).
pub mod Told
pub mod ToldLaws
