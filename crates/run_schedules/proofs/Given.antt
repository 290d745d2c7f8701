-- What is so by the crates below, given on to the crates above: these list this crate in place of those.
pub use Rattle.papaya_raw.proofs.Given.TablesLists
pub use Rattle.seize_words.proofs.General
pub use Rattle.seize_words.proofs.OneMemory.OneOwner as SeizeWordsOneOwner
