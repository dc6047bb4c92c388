-- What a reader must believe of a lent record: Lent (the answer, and the record afterwards).
pub mod Lent
