-- Laws that the proofs of code share: Following (how the marks follow a delivery) and Looking (how they are filled).
pub mod Following
pub mod Looking
