-- What is so by the crates below, given on to the crates above: these list this crate in place of those.
pub use Rattle.map_facts_late.proofs.Calls as LateCalls
pub use Rattle.map_facts_late.proofs.Copiers as LateCopiers
pub use Rattle.map_facts_late.proofs.Given.PointsBlocking
pub use Rattle.map_facts_late.proofs.Given.PointsCalls
pub use Rattle.map_facts_late.proofs.Given.PointsCopiers
pub use Rattle.map_facts_late.proofs.Given.PointsDescents
pub use Rattle.map_facts_late.proofs.Given.PointsDisposals
pub use Rattle.map_facts_late.proofs.Given.PointsLawful
pub use Rattle.map_facts_late.proofs.Given.PointsLookups
pub use Rattle.map_facts_late.proofs.Given.PointsMaking
pub use Rattle.map_facts_late.proofs.Given.PointsMovedLasts
pub use Rattle.map_facts_late.proofs.Given.PointsSteps
pub use Rattle.map_facts_late.proofs.Given.PointsValues
pub use Rattle.map_facts_late.proofs.Given.RuleHistory
pub use Rattle.map_facts_late.proofs.Given.RuleKeys
pub use Rattle.map_facts_late.proofs.Given.RuleLaws
pub use Rattle.map_facts_late.proofs.Given.RuleMoves
pub use Rattle.map_facts_late.proofs.Given.RuleShares
pub use Rattle.map_facts_late.proofs.Given.RuleSpared
pub use Rattle.map_facts_late.proofs.Given.RuleWords
pub use Rattle.map_facts_late.proofs.Given.RuleWorld
pub use Rattle.map_facts_late.proofs.Given.TablesLists
pub use Rattle.map_facts_late.proofs.Given.TablesPlaces
pub use Rattle.map_facts_late.proofs.Given.TablesTableLens
pub use Rattle.map_facts_late.proofs.KindsKept as LateKindsKept
pub use Rattle.map_facts_late.proofs.Known as LateKnown
pub use Rattle.map_facts_late.proofs.Lasts as LateLasts
pub use Rattle.map_facts_late.proofs.Rooms as LateRooms
pub use Rattle.map_facts_late.proofs.Samples as LateSamples
pub use Rattle.map_facts_late.proofs.Swept as LateSwept
pub use Rattle.seize_model.proofs.Alone.Histories as SeizeAloneHistories
pub use Rattle.seize_model.proofs.Alone.Laws as SeizeAloneLaws
pub use Rattle.seize_model.proofs.Alone.Spared as SeizeAloneSpared
pub use Rattle.seize_model.proofs.Ends.Rows as SeizeEndsRows
pub use Rattle.seize_model.proofs.Ends.Settling as SeizeEndsSettling
pub use Rattle.seize_model.proofs.Given.General
pub use Rattle.seize_model.proofs.Given.SeizeMemoryWords
pub use Rattle.seize_model.proofs.Given.SeizeMemoryWritten
pub use Rattle.seize_model.proofs.Given.SeizeMovesMoves
pub use Rattle.seize_model.proofs.Given.SeizeMovesSets
pub use Rattle.seize_model.proofs.Given.SeizeMovesState
pub use Rattle.seize_model.proofs.Given.SeizeRulePoints
pub use Rattle.seize_model.proofs.Given.SeizeRuleRows
pub use Rattle.seize_model.proofs.Given.SeizeRuleWords
pub use Rattle.seize_model.proofs.Given.SeizeRuleWorld
pub use Rattle.seize_model.proofs.Given.SeizeWaitingCounts
pub use Rattle.seize_model.proofs.Given.SeizeWordsOneOwner
pub use Rattle.seize_model.proofs.Given.SeizeWordsPlans
