-- The run area in words. What a reader must believe: Places (the numbers of its layout, docs/LAYOUT.md) and Area (what each word holds, and which
-- areas are well formed). Used, Contained, Replaced, Arcs, Squares, Writes, AreaFacts, Regions, Overlaid and Tells name what laws and leaves speak
-- of; the laws stand in the modules named after them.
pub mod Places
pub mod Area
pub mod Used
pub mod Contained
pub mod Replaced
pub mod Arcs
pub mod Squares
pub mod Writes
pub mod AreaFacts
pub mod Regions
pub mod Overlaid
pub mod Tells
pub mod PlacesLaws
pub mod ContainedLaws
pub mod OverlaidLaws
pub mod TellsLaws
pub mod ArcLaws
pub mod CodeLaws
pub mod WordLaws
pub mod StoredLaws
pub mod WriteLaws
pub mod ReadLaws
pub mod WordTestLaws
pub mod RunInLaws
pub mod AreaLaws
pub mod LinkLaws
pub mod SquareLaws
