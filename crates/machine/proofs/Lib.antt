-- Laws of picks and of running on: ChooserLaws, MadeLaws (the one induction over running on, and over lists), PlaceLaws (a message found at a
-- place), UpheldLaws (the common part of the promise).
pub mod PlaceLaws
pub mod ChooserLaws
pub mod MadeLaws
pub mod UpheldLaws
