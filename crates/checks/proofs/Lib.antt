-- Laws of the definitions: ReachLaws (the tests of who reaches whom say what the relations say).
pub mod ReachLaws
