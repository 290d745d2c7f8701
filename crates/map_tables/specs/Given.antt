-- The words of the crates below, given on to the crates above: these list this crate in place of those.
pub use Rattle.seize_words.specs.declared as SeizeWordsDeclared
pub use Rattle.seize_words.specs.OneMemory.Mem as SeizeWordsMem
pub use Rattle.seize_words.specs.OneMemory.Op as SeizeWordsOp
pub use Rattle.seize_words.specs.OneMemory.Plan as SeizeWordsPlan
pub use Rattle.seize_words.specs.OneMemory.Word as SeizeWordsWord
