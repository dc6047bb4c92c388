-- What a step promises is in steps, `Step`; Within has what its inner functions promise each other.
pub mod Within
