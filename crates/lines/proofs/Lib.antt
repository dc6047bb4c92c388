-- What the proofs of the functions share: Digits (the digits that the kit's library prints), Signs (a number below 0, and one that is not) and Words (a
-- word at a page's end).
pub mod Digits
pub mod Signs
pub mod Words
