-- What the proofs of the functions share: Partly (a text of which a part is put), Turning (the lines of the picks and of the program's own
-- deliveries, one by one, in an area).
pub mod Partly
pub mod Turning
