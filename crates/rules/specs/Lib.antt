-- What the functions of the rules promise is in steps, `Step`; Within has what they ask of each other.
pub mod Within
