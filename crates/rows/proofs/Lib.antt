pub mod Cells
pub mod Fills
pub mod Squaring
pub mod Searches
