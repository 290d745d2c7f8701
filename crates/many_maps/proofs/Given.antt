-- What is so by the crates below, given on to the crates above: these list this crate in place of those.
pub use Rattle.many_calls.proofs.Asked as CallersAsked
pub use Rattle.many_calls.proofs.Claims as CallersClaims
pub use Rattle.many_calls.proofs.Given.General
pub use Rattle.many_calls.proofs.Given.LateCalls
pub use Rattle.many_calls.proofs.Given.LateCopiers
pub use Rattle.many_calls.proofs.Given.LateKindsKept
pub use Rattle.many_calls.proofs.Given.LateLasts
pub use Rattle.many_calls.proofs.Given.LateRooms
pub use Rattle.many_calls.proofs.Given.LateSamples
pub use Rattle.many_calls.proofs.Given.LateSwept
pub use Rattle.many_calls.proofs.Given.PointsBlocking
pub use Rattle.many_calls.proofs.Given.PointsCalls
pub use Rattle.many_calls.proofs.Given.PointsCopiers
pub use Rattle.many_calls.proofs.Given.PointsDescents
pub use Rattle.many_calls.proofs.Given.PointsDisposals
pub use Rattle.many_calls.proofs.Given.PointsLookups
pub use Rattle.many_calls.proofs.Given.PointsMaking
pub use Rattle.many_calls.proofs.Given.PointsMovedLasts
pub use Rattle.many_calls.proofs.Given.PointsSteps
pub use Rattle.many_calls.proofs.Given.PointsValues
pub use Rattle.many_calls.proofs.Given.RuleKeys
pub use Rattle.many_calls.proofs.Given.RuleMoves
pub use Rattle.many_calls.proofs.Given.RuleSpared
pub use Rattle.many_calls.proofs.Given.RuleWords
pub use Rattle.many_calls.proofs.Given.RuleWorld
pub use Rattle.many_calls.proofs.Given.SeizeAloneHistories
pub use Rattle.many_calls.proofs.Given.SeizeAloneSpared
pub use Rattle.many_calls.proofs.Given.SeizeMemoryWords
pub use Rattle.many_calls.proofs.Given.SeizeMemoryWritten
pub use Rattle.many_calls.proofs.Given.SeizeMovesMoves
pub use Rattle.many_calls.proofs.Given.SeizeMovesSets
pub use Rattle.many_calls.proofs.Given.SeizeMovesState
pub use Rattle.many_calls.proofs.Given.SeizeRulePoints
pub use Rattle.many_calls.proofs.Given.SeizeRuleRows
pub use Rattle.many_calls.proofs.Given.SeizeRuleWords
pub use Rattle.many_calls.proofs.Given.SeizeRuleWorld
pub use Rattle.many_calls.proofs.Given.SeizeWaitingCounts
pub use Rattle.many_calls.proofs.Given.SeizeWordsOneOwner
pub use Rattle.many_calls.proofs.Given.SeizeWordsPlans
pub use Rattle.many_calls.proofs.Given.TablesPlaces
pub use Rattle.many_calls.proofs.Given.TablesTableLens
pub use Rattle.many_calls.proofs.MapBegins as CallersMapBegins
pub use Rattle.many_calls.proofs.Rows as CallersRows
pub use Rattle.many_calls.proofs.Sights as CallersSights
pub use Rattle.many_calls.proofs.Together as CallersTogether
