-- What a reader must believe of walks: Walk (opening, a step, what a walk meets, and what is claimed of it from its opening to the end).
-- Laws stand apart in WalkLaws: the claim holds, which openings are accepted, where a step gives the end.
pub mod Walk
pub mod WalkLaws
