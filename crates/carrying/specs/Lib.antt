-- A delivery carried out in lent words: Carrying (the changes of which it is made); DeliveryLaws (the changes make the delivery), CarryLaws (each
-- change in its turn).
pub mod Carrying
pub mod DeliveryLaws
pub mod CarryLaws
