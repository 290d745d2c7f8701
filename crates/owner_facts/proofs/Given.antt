-- What is so by the crates below, given on to the crates above: these list this crate in place of those.
pub use Rattle.many_maps.proofs.Among as FinishesAmong
pub use Rattle.many_maps.proofs.Beside as FinishesBeside
pub use Rattle.many_maps.proofs.Ends as FinishesEnds
pub use Rattle.many_maps.proofs.Given.CallersClaims
pub use Rattle.many_maps.proofs.Given.CallersMapBegins
pub use Rattle.many_maps.proofs.Given.CallersRows
pub use Rattle.many_maps.proofs.Given.CallersSights
pub use Rattle.many_maps.proofs.Given.CallersTogether
pub use Rattle.many_maps.proofs.Given.LateCalls
pub use Rattle.many_maps.proofs.Given.LateCopiers
pub use Rattle.many_maps.proofs.Given.LateLasts
pub use Rattle.many_maps.proofs.Given.LateRooms
pub use Rattle.many_maps.proofs.Given.LateSamples
pub use Rattle.many_maps.proofs.Given.LateSwept
pub use Rattle.many_maps.proofs.Given.PointsBlocking
pub use Rattle.many_maps.proofs.Given.PointsCalls
pub use Rattle.many_maps.proofs.Given.PointsCopiers
pub use Rattle.many_maps.proofs.Given.PointsLookups
pub use Rattle.many_maps.proofs.Given.PointsMaking
pub use Rattle.many_maps.proofs.Given.PointsSteps
pub use Rattle.many_maps.proofs.Given.SeizeAloneHistories
pub use Rattle.many_maps.proofs.Given.SeizeAloneSpared
pub use Rattle.many_maps.proofs.Given.SeizeMemoryWords
pub use Rattle.many_maps.proofs.Given.SeizeMemoryWritten
pub use Rattle.many_maps.proofs.Given.SeizeMovesMoves
pub use Rattle.many_maps.proofs.Given.SeizeMovesSets
pub use Rattle.many_maps.proofs.Given.SeizeMovesState
pub use Rattle.many_maps.proofs.Given.SeizeRulePoints
pub use Rattle.many_maps.proofs.Given.SeizeRuleRows
pub use Rattle.many_maps.proofs.Given.SeizeRuleWorld
pub use Rattle.many_maps.proofs.Given.SeizeWaitingCounts
pub use Rattle.many_maps.proofs.Samples as ManyMapsSamples
