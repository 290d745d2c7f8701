-- What is so by the crates below, given on to the crates above: these list this crate in place of those.
pub use Rattle.seize_model.proofs.Alone.Histories as SeizeAloneHistories
pub use Rattle.seize_model.proofs.Alone.Laws as SeizeAloneLaws
pub use Rattle.seize_model.proofs.Alone.Spared as SeizeAloneSpared
pub use Rattle.seize_model.proofs.Alone.Whole as SeizeAloneWhole
pub use Rattle.seize_model.proofs.Ends.Batches as SeizeEndsBatches
pub use Rattle.seize_model.proofs.Ends.Rows as SeizeEndsRows
pub use Rattle.seize_model.proofs.Ends.Settling as SeizeEndsSettling
pub use Rattle.seize_model.proofs.Given.SeizeMemoryWords
pub use Rattle.seize_model.proofs.Given.SeizeMovesMoves
pub use Rattle.seize_model.proofs.Given.SeizeMovesState
pub use Rattle.seize_model.proofs.Given.SeizeRulePoints
pub use Rattle.seize_model.proofs.Given.SeizeRuleRows
pub use Rattle.seize_model.proofs.Given.SeizeRuleWorld
pub use Rattle.seize_model.proofs.Given.SeizeWaitingFlushes
pub use Rattle.seize_model.proofs.Sets.Reclaims as SeizeSetsReclaims
pub use Rattle.seize_model.proofs.Sets.Slots as SeizeSetsSlots
pub use Rattle.seize_model.proofs.Sets.Turns as SeizeSetsTurns
