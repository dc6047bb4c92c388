-- Laws that the proofs of code share: OnLink (the delivery on the chosen link: what it asks, and what it leaves).
pub mod OnLink
