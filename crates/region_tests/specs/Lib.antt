-- The tests of an area's regions: RegionTests, Waiting (the sets that they are lent), Loaded (all that they are lent), RegionFacts (what each test says); WaitingLaws (who waits for
-- whom) and RegionLaws.
pub mod RegionTests
pub mod Waiting
pub mod Loaded
pub mod WaitingLaws
pub mod RegionFacts
pub mod RegionLaws
