-- What a reader must believe of a start: StartCall (its number, its answer and the area that it leaves). Rows: its last rows, for the proof of
-- its code; StartCallLaws: the number is that of the answer, and what an accepted start says of its table.
pub mod StartCall
pub mod Rows
pub mod StartCallLaws
