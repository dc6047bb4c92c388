-- Any check that spreads by probes and ends by acknowledgements. What a reader must believe: Machine (states, links, a delivery), Calls
-- (picks and running on, over any chooser), Lists (lists of calls). What proofs speak of: Formed (well formed, part by part), Made (calls as
-- accepted deliveries), Weights, Among (one message of a link, wherever it stands) and Moved (what a delivery does, in weights), Diffusing
-- (what start and deliveries keep, and what a check proves of its own step for that), Upheld (what a check's invariants must give).
-- Laws stand apart: FormedLaws, RunningLaws (turn by turn), ListedLaws (by which numbers a delivery is refused), WeightLaws, AmongLaws, MovedLaws, DiffusingLaws, RestLaws, TreeLaws (fathers lead
-- to the start); and in proofs/ those of picks and of running on.
pub mod Machine
pub mod Calls
pub mod Lists
pub mod Formed
pub mod Made
pub mod Weights
pub mod Among
pub mod Moved
pub mod Diffusing
pub mod Upheld
pub mod LinkListLaws
pub mod FormedLaws
pub mod RunningLaws
pub mod ListedLaws
pub mod WeightLaws
pub mod AmongLaws
pub mod MovedLaws
pub mod DiffusingLaws
pub mod RestLaws
pub mod TreeLaws
