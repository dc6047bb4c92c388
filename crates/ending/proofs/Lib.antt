-- Laws of what a reader believes: RowLaws proves the rows, OrderLaws what another order changes.
pub mod RowLaws
pub mod OrderLaws
