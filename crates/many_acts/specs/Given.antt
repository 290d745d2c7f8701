-- The words of the crates below, given on to the crates above: these list this crate in place of those.
pub use Rattle.owner_facts.specs.Given.CallersClaims
pub use Rattle.owner_facts.specs.Given.CallersKind
pub use Rattle.owner_facts.specs.Given.CallersOverAll
pub use Rattle.owner_facts.specs.Given.CallersPairs
pub use Rattle.owner_facts.specs.Given.CallersRooms
pub use Rattle.owner_facts.specs.Given.CallersRows
pub use Rattle.owner_facts.specs.Given.CallersSights
pub use Rattle.owner_facts.specs.Given.CallersTogether
pub use Rattle.owner_facts.specs.Given.FinishesEndings
pub use Rattle.owner_facts.specs.Given.FinishesFactsEnds
pub use Rattle.owner_facts.specs.Given.FinishesMachines
pub use Rattle.owner_facts.specs.Given.FinishesMakings
pub use Rattle.owner_facts.specs.Given.FinishesMaps
pub use Rattle.owner_facts.specs.Given.FinishesOrders
pub use Rattle.owner_facts.specs.Given.LateFactsReserves
pub use Rattle.owner_facts.specs.Given.LateFactsSweeps
pub use Rattle.owner_facts.specs.Given.LateLateCalls
pub use Rattle.owner_facts.specs.Given.LateLateCopies
pub use Rattle.owner_facts.specs.Given.LateLateReserves
pub use Rattle.owner_facts.specs.Given.LateToldReserves
pub use Rattle.owner_facts.specs.Given.LateToldSweeps
pub use Rattle.owner_facts.specs.Given.PointsFactsCalls
pub use Rattle.owner_facts.specs.Given.PointsFactsCopies
pub use Rattle.owner_facts.specs.Given.PointsFactsCopiesBlocking
pub use Rattle.owner_facts.specs.Given.PointsFactsDisposes
pub use Rattle.owner_facts.specs.Given.PointsSteps
pub use Rattle.owner_facts.specs.Given.PointsTold
pub use Rattle.run_shows.specs.Follows.Finds as FollowsFinds
pub use Rattle.run_shows.specs.Follows.Steps as FollowsSteps
pub use Rattle.run_shows.specs.Others.Elsewhere as OthersElsewhere
pub use Rattle.run_shows.specs.Others.Endings as OthersEndings
pub use Rattle.run_shows.specs.Others.Makings as OthersMakings
pub use Rattle.run_shows.specs.Others.Rows as OthersRows
pub use Rattle.run_shows.specs.Reclaims.Reclaims as ReclaimsReclaims
pub use Rattle.run_shows.specs.Scenes.Beginning as ScenesBeginning
pub use Rattle.run_shows.specs.Scenes.Ending as ScenesEnding
pub use Rattle.run_shows.specs.Scenes.Held as ScenesHeld
pub use Rattle.run_shows.specs.Scenes.Making as ScenesMaking
pub use Rattle.run_shows.specs.Scenes.OnSlots as ScenesOnSlots
pub use Rattle.run_shows.specs.Scenes.Reclaiming as ScenesReclaiming
pub use Rattle.run_shows.specs.Scenes.Replying as ScenesReplying
pub use Rattle.run_shows.specs.Scenes.Rows as ScenesRows
pub use Rattle.run_shows.specs.Scenes.Scene as ScenesScene
pub use Rattle.run_shows.specs.Scenes.Stepping as ScenesStepping
pub use Rattle.run_shows.specs.declared as ScenesDeclared
