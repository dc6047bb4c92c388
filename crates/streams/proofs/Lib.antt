-- Laws that the proof of taking steps cites: Taken (the steps that are still to come).
pub mod Taken
