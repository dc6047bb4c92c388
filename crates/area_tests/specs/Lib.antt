-- The test of an area: AreaTests (region by region, in the order of the code), Testing (what its code leaves); AreaTestsLaws (all of the tests are
-- `area_right` of areas, Area).
pub mod AreaTests
pub mod Testing
pub mod AreaTestsLaws
