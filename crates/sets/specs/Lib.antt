-- Sets of processes in an array of numbers. What a reader must believe: Digits (a set as the digits of a word) and Sets (where the array holds
-- them, and how the code reads and changes them). Laws: CountLaws (how many pass a test), DigitLaws, SetLaws and RankLaws (the one of a set by
-- its rank).
pub mod Digits
pub mod Sets
pub mod CountLaws
pub mod DigitLaws
pub mod SetLaws
pub mod RankLaws
