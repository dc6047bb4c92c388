-- What the public functions promise stands in the crate tables (Reading, Walking). Inner has what inner functions ask and promise.
pub mod Inner
