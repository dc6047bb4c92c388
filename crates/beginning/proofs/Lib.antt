-- Laws that the proofs of code share: Laying (the area before anything is sent), Beginning (the record and the probes of the start).
pub mod Laying
pub mod Beginning
