-- What is so by the crates below, given on to the crates above: these list this crate in place of those.
pub use Rattle.map_measures.proofs.Given.CallersAsked
pub use Rattle.map_measures.proofs.Given.CallersRows
pub use Rattle.map_measures.proofs.Given.LateKindsKept
pub use Rattle.map_measures.proofs.Given.PointsLawful
pub use Rattle.map_measures.proofs.Given.PointsMovedLasts
pub use Rattle.map_measures.proofs.Given.PointsValues
pub use Rattle.map_measures.proofs.Given.SeizeAloneHistories
pub use Rattle.map_measures.proofs.Given.SeizeAloneLaws
pub use Rattle.map_measures.proofs.Given.SeizeEndsBatches
pub use Rattle.map_measures.proofs.Given.SeizeEndsRows
pub use Rattle.map_measures.proofs.Given.SeizeEndsSettling
pub use Rattle.map_measures.proofs.Given.SeizeQuietSlots
pub use Rattle.map_measures.proofs.Waiters.Awaited as WaitersAwaited
pub use Rattle.map_measures.proofs.Waiters.BeginsSweeps as WaitersBeginsSweeps
pub use Rattle.map_measures.proofs.Waiters.Calls as WaitersCalls
pub use Rattle.map_measures.proofs.Waiters.Likes as WaitersLikes
pub use Rattle.map_measures.proofs.Waiters.RowsFresh as WaitersRowsFresh
pub use Rattle.map_measures.proofs.Waiters.Stands as WaitersStands
pub use Rattle.map_measures.proofs.Waits.Awaited as WaitsAwaited
pub use Rattle.map_measures.proofs.Waits.CallPlans as WaitsCallPlans
pub use Rattle.map_measures.proofs.Waits.CallsEnd as WaitsCallsEnd
pub use Rattle.map_measures.proofs.Waits.Claimed as WaitsClaimed
pub use Rattle.map_measures.proofs.Waits.Copyings as WaitsCopyings
pub use Rattle.map_measures.proofs.Waits.EndingCalls as WaitsEndingCalls
pub use Rattle.map_measures.proofs.Waits.Laws as WaitsLaws
pub use Rattle.map_measures.proofs.Waits.Never as WaitsNever
pub use Rattle.map_measures.proofs.Waits.Promised as WaitsPromised
pub use Rattle.map_measures.proofs.Waits.RoomsEnd as WaitsRoomsEnd
pub use Rattle.map_measures.proofs.Waits.Works as WaitsWorks
pub use Rattle.owner_facts.proofs.Alone.Lone as AloneLone
pub use Rattle.owner_facts.proofs.Given.CallersTogether
pub use Rattle.owner_facts.proofs.Given.FinishesBeside
pub use Rattle.owner_facts.proofs.Given.FinishesEnds
pub use Rattle.owner_facts.proofs.Given.PointsCalls
pub use Rattle.owner_facts.proofs.Given.PointsMaking
pub use Rattle.owner_facts.proofs.Maps.Laws as MapsLaws
pub use Rattle.owner_facts.proofs.Maps.Reserves as MapsReserves
pub use Rattle.owner_facts.proofs.Maps.Rests as MapsRests
