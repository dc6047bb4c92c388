-- 01's numbers by example: Examples has each, by computation, on the tables, inputs, records, runs and areas of States; LayoutExamples has
-- the layout of an area; Computing names the definitions that they compute.
pub mod States
pub mod Computing
pub mod Examples
pub mod LayoutExamples
