-- Links in a tested area: Changes (the changes of links), Standing (what waits at a place of a link); LinkChangeLaws (what each change keeps),
-- StandingLaws.
pub mod Changes
pub mod Standing
pub mod LinkChangeLaws
pub mod StandingLaws
