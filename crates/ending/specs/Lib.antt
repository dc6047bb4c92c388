-- The end of a knot check for every order. What is common to all checks stands in the crate machine; here is what this check's messages
-- carry. A reader believes Demand (demand 3 as one statement, with its proof of one line), Rows (the P rows of 01) and Orders (what another
-- fixed order changes). What proofs speak of: Weights (what is counted of a run), Spreading (how a flag spreads along the waits), Invariants
-- (what start and deliveries keep) and RowTests (the rows as tests that compute).
-- Laws stand apart: CountingLaws gives the machine what it asks; TidyLaws, SpreadingLaws and SummedLaws prove each invariant kept,
-- SpreadEndLaws and SumBoundLaws what follows from it; HoldsLaws puts them together. Ending is the theorem over waits, EndingLaws says that
-- running on comes to the end, ShuffledLaws that it does so with a seed too, DemandLaws says D by arcs, InWordsLaws the whole end in the
-- words of the relation; in proofs, RowLaws proves the rows, OrderLaws what another order changes.
pub mod Weights
pub mod Spreading
pub mod Invariants
pub mod Demand
pub mod Rows
pub mod Orders
pub mod RowTests
pub mod CountingLaws
pub mod TidyLaws
pub mod SpreadingLaws
pub mod SpreadEndLaws
pub mod SummedLaws
pub mod SumBoundLaws
pub mod HoldsLaws
pub mod Ending
pub mod DemandLaws
pub mod InWordsLaws
pub mod EndingLaws
pub mod ShuffledLaws
