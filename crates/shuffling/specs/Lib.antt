-- What a reader must believe of the states of a shuffled run: Shuffle. ShuffleLaws: states of 32 bits stay such states, and no other
-- becomes 0; Pinned: states computed.
pub mod Shuffle
pub mod ShuffleLaws
pub mod Pinned
