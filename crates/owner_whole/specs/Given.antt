-- The words of the crates below, given on to the crates above: these list this crate in place of those.
pub use Rattle.map_measures.specs.Given.CallersAsked
pub use Rattle.map_measures.specs.Given.CallersKind
pub use Rattle.map_measures.specs.Given.CallersPairs
pub use Rattle.map_measures.specs.Given.CallersRows
pub use Rattle.map_measures.specs.Given.CallersSince
pub use Rattle.map_measures.specs.Given.LateCovers
pub use Rattle.map_measures.specs.Given.LateFaults
pub use Rattle.map_measures.specs.Given.LateKinds
pub use Rattle.map_measures.specs.Given.LateLateCopies
pub use Rattle.map_measures.specs.Given.PointsMeasures
pub use Rattle.map_measures.specs.Given.ResizeDeclared
pub use Rattle.map_measures.specs.Given.ResizeNewMap
pub use Rattle.map_measures.specs.Given.ResizeNewTable
pub use Rattle.map_measures.specs.Given.ResizeSum
pub use Rattle.map_measures.specs.Given.SeizeActsWaits
pub use Rattle.map_measures.specs.Given.SeizeAloneAlone
pub use Rattle.map_measures.specs.Given.SeizeEndsHolders
pub use Rattle.map_measures.specs.Waiters.Blocking as WaitersBlocking
pub use Rattle.map_measures.specs.Waits.Others as WaitsOthers
pub use Rattle.map_measures.specs.Waits.Waits as WaitsWaits
pub use Rattle.owner_facts.specs.Alone.Alone as AloneAlone
pub use Rattle.owner_facts.specs.Alone.Counted as AloneCounted
pub use Rattle.owner_facts.specs.Alone.Counting as AloneCounting
pub use Rattle.owner_facts.specs.Alone.Endings as AloneEndings
pub use Rattle.owner_facts.specs.Alone.FactsAloneCalls as AloneFactsAloneCalls
pub use Rattle.owner_facts.specs.Given.CallersKept
pub use Rattle.owner_facts.specs.Given.CallersOverAll
pub use Rattle.owner_facts.specs.Given.CallersRooms
pub use Rattle.owner_facts.specs.Given.CallersSights
pub use Rattle.owner_facts.specs.Given.CallersTogether
pub use Rattle.owner_facts.specs.Given.FinishesEndings
pub use Rattle.owner_facts.specs.Given.FinishesMachines
pub use Rattle.owner_facts.specs.Given.FinishesMakings
pub use Rattle.owner_facts.specs.Given.FinishesMaps
pub use Rattle.owner_facts.specs.Given.FinishesOrders
pub use Rattle.owner_facts.specs.Given.LateFactsReserves
pub use Rattle.owner_facts.specs.Given.LateFactsSweeps
pub use Rattle.owner_facts.specs.Given.LateLateCalls
pub use Rattle.owner_facts.specs.Given.LateLateReserves
pub use Rattle.owner_facts.specs.Given.LateToldReserves
pub use Rattle.owner_facts.specs.Given.LateToldSweeps
pub use Rattle.owner_facts.specs.Given.PointsFactsCalls
pub use Rattle.owner_facts.specs.Given.PointsFactsCopies
pub use Rattle.owner_facts.specs.Given.PointsFactsCopiesBlocking
pub use Rattle.owner_facts.specs.Given.PointsFactsDisposes
pub use Rattle.owner_facts.specs.Given.PointsFactsTables
pub use Rattle.owner_facts.specs.Given.PointsSteps
pub use Rattle.owner_facts.specs.Given.PointsTold
pub use Rattle.owner_facts.specs.Maps.AloneBegins as MapsAloneBegins
pub use Rattle.owner_facts.specs.Maps.AloneReserves as MapsAloneReserves
pub use Rattle.owner_facts.specs.Maps.EndingsReserves as MapsEndingsReserves
pub use Rattle.owner_facts.specs.Maps.FaultsBegins as MapsFaultsBegins
pub use Rattle.owner_facts.specs.Maps.MeasuresBegins as MapsMeasuresBegins
