-- Starting: the run and the area on the way of a start, for its proof; StartingLaws: each run on the way is well formed.
pub mod Starting
pub mod StartingLaws
