-- The words of the crates below, given on to the crates above: these list this crate in place of those.
pub use Rattle.many_maps.specs.Endings as FinishesEndings
pub use Rattle.many_maps.specs.FactsEnds as FinishesFactsEnds
pub use Rattle.many_maps.specs.Given.CallersAsked
pub use Rattle.many_maps.specs.Given.CallersClaims
pub use Rattle.many_maps.specs.Given.CallersKept
pub use Rattle.many_maps.specs.Given.CallersKind
pub use Rattle.many_maps.specs.Given.CallersOverAll
pub use Rattle.many_maps.specs.Given.CallersPairs
pub use Rattle.many_maps.specs.Given.CallersRooms
pub use Rattle.many_maps.specs.Given.CallersRows
pub use Rattle.many_maps.specs.Given.CallersSights
pub use Rattle.many_maps.specs.Given.CallersTogether
pub use Rattle.many_maps.specs.Given.LateFactsReserves
pub use Rattle.many_maps.specs.Given.LateFactsSweeps
pub use Rattle.many_maps.specs.Given.LateLateCalls
pub use Rattle.many_maps.specs.Given.LateLateCopies
pub use Rattle.many_maps.specs.Given.LateLateReserves
pub use Rattle.many_maps.specs.Given.LateLeft
pub use Rattle.many_maps.specs.Given.LateToldReserves
pub use Rattle.many_maps.specs.Given.LateToldSweeps
pub use Rattle.many_maps.specs.Given.PointsFactsCalls
pub use Rattle.many_maps.specs.Given.PointsFactsCopies
pub use Rattle.many_maps.specs.Given.PointsFactsCopiesBlocking
pub use Rattle.many_maps.specs.Given.PointsFactsDisposes
pub use Rattle.many_maps.specs.Given.PointsFactsTables
pub use Rattle.many_maps.specs.Given.PointsOthers
pub use Rattle.many_maps.specs.Given.PointsSteps
pub use Rattle.many_maps.specs.Given.PointsTold
pub use Rattle.many_maps.specs.Given.PointsUnlinked
pub use Rattle.many_maps.specs.Given.SeizeWaitingHeld
pub use Rattle.many_maps.specs.Machines as FinishesMachines
pub use Rattle.many_maps.specs.Makings as FinishesMakings
pub use Rattle.many_maps.specs.Maps as FinishesMaps
pub use Rattle.many_maps.specs.Orders as FinishesOrders
pub use Rattle.many_maps.specs.Rooms as FinishesRooms
pub use Rattle.many_maps.specs.Sweeps as FinishesSweeps
