-- A delivery in lent words: Delivering (what is answered), DeliveryFacts (what is known of one that goes); ContainedLaws and StorableLaws (what
-- calls keep), AcceptLaws (what the step's answer says of it), PreparedLaws (what is known of a delivery before it is carried out).
pub mod Delivering
pub mod DeliveryFacts
pub mod ContainedLaws
pub mod StorableLaws
pub mod AcceptLaws
pub mod PreparedLaws
