-- What is looked at before a delivery changes anything: Receiving (the receiver's step, and to whom it sends), Rooms (room on links); LentLaws (what
-- the step is lent is in range).
pub mod Receiving
pub mod Rooms
pub mod LentLaws
