-- What is so by the crates below, given on to the crates above: these list this crate in place of those.
pub use Rattle.map_straight.proofs.Given.RuleKeys
pub use Rattle.map_straight.proofs.Given.RuleLaws
pub use Rattle.map_straight.proofs.Given.RuleSpared
pub use Rattle.map_straight.proofs.Given.RuleWords
pub use Rattle.map_straight.proofs.Given.SeizeRuleRows
pub use Rattle.owner_whole.proofs.Given.CallersTogether
pub use Rattle.owner_whole.proofs.Given.LateKindsKept
pub use Rattle.owner_whole.proofs.Given.PointsCalls
pub use Rattle.owner_whole.proofs.Given.PointsLawful
pub use Rattle.owner_whole.proofs.Given.SeizeAloneLaws
pub use Rattle.owner_whole.proofs.Given.WaitersBeginsSweeps
pub use Rattle.owner_whole.proofs.Given.WaitersCalls
pub use Rattle.owner_whole.proofs.Given.WaitersLikes
pub use Rattle.owner_whole.proofs.Given.WaitersRowsFresh
pub use Rattle.owner_whole.proofs.Given.WaitsCallPlans
pub use Rattle.owner_whole.proofs.Given.WaitsCallsEnd
pub use Rattle.owner_whole.proofs.Given.WaitsCopyings
pub use Rattle.owner_whole.proofs.Given.WaitsEndingCalls
pub use Rattle.owner_whole.proofs.Given.WaitsLaws
pub use Rattle.owner_whole.proofs.Given.WaitsNever
pub use Rattle.owner_whole.proofs.Given.WaitsRoomsEnd
pub use Rattle.owner_whole.proofs.Strides.Runs as StridesRuns
pub use Rattle.owner_whole.proofs.Whole.Contents as WholeContents
pub use Rattle.owner_whole.proofs.Whole.Keys as WholeKeys
pub use Rattle.owner_whole.proofs.Whole.Rows as WholeRows
pub use Rattle.owner_whole.proofs.Whole.Sweeps as WholeSweeps
pub use Rattle.seize_words.proofs.OneMemory.Plans as SeizeWordsPlans
