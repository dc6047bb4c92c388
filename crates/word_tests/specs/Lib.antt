-- The tests of words and of a link: WordTests, and LinkTestLaws (what each says, and a link's test in two parts).
pub mod WordTests
pub mod LinkTestLaws
