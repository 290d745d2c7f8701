-- What is so by the crates below, given on to the crates above: these list this crate in place of those.
pub use Rattle.seize.proofs.Given.General
pub use Rattle.seize.proofs.Given.SeizeWordsOneOwner
pub use Rattle.seize.proofs.Given.SeizeWordsPlans
pub use Rattle.seize_rule.proofs.Given.SeizeMemoryWords
pub use Rattle.seize_rule.proofs.Given.SeizeMemoryWritten
pub use Rattle.seize_rule.proofs.Given.SeizeMovesMoves
pub use Rattle.seize_rule.proofs.Given.SeizeMovesSets
pub use Rattle.seize_rule.proofs.Given.SeizeMovesState
pub use Rattle.seize_rule.proofs.Given.SeizeWaitingCounts
pub use Rattle.seize_rule.proofs.Given.SeizeWaitingFlushes
pub use Rattle.seize_rule.proofs.Points as SeizeRulePoints
pub use Rattle.seize_rule.proofs.Rows as SeizeRuleRows
pub use Rattle.seize_rule.proofs.Words as SeizeRuleWords
pub use Rattle.seize_rule.proofs.World as SeizeRuleWorld
