pub mod Numbers
pub mod NumberLaws
