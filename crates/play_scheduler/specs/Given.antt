-- The words of the crates below, given on to the crates above: these list this crate in place of those.
pub use Rattle.map_straight.specs.Given.RuleChart
pub use Rattle.map_straight.specs.Given.RuleMaps
pub use Rattle.map_straight.specs.Given.RuleWords
pub use Rattle.map_straight.specs.Shown.Shown as ShownShown
pub use Rattle.run_logged.specs.Given.HistoriesAsking
pub use Rattle.run_logged.specs.Given.KeptEnds
pub use Rattle.run_logged.specs.Given.OwesLooking
pub use Rattle.run_logged.specs.Given.RemainsNumbered
pub use Rattle.run_logged.specs.Given.RemainsRemains
pub use Rattle.run_logged.specs.Given.SettlesHand
pub use Rattle.run_logged.specs.Given.ShedsWaits
pub use Rattle.run_logged.specs.Log.Back as LoggedBack
pub use Rattle.run_logged.specs.Log.Calling as LoggedCalling
pub use Rattle.run_logged.specs.Log.Ends as LoggedEnds
pub use Rattle.run_logged.specs.Log.Goes as LoggedGoes
pub use Rattle.run_logged.specs.Log.Makings as LoggedMakings
pub use Rattle.run_logged.specs.Log.Reclaims as LoggedReclaims
pub use Rattle.run_logged.specs.Log.Roots as LoggedRoots
pub use Rattle.run_logged.specs.Log.Shown as LoggedShown
pub use Rattle.run_logged.specs.declared as LoggedDeclared
pub use Rattle.run_shows.specs.Follows.Blocks as FollowsBlocks
pub use Rattle.run_shows.specs.Follows.Calling as FollowsCalling
pub use Rattle.run_shows.specs.Follows.Calls as FollowsCalls
pub use Rattle.run_shows.specs.Follows.Maps as FollowsMaps
pub use Rattle.run_shows.specs.Others.Endings as OthersEndings
pub use Rattle.run_shows.specs.Others.Makings as OthersMakings
pub use Rattle.run_shows.specs.Reclaims.Left as ReclaimsLeft
pub use Rattle.run_shows.specs.Reclaims.Reclaims as ReclaimsReclaims
pub use Rattle.run_shows.specs.Scenes.Ending as ScenesEnding
pub use Rattle.run_shows.specs.Scenes.Replying as ScenesReplying
pub use Rattle.run_shows.specs.Scenes.Scene as ScenesScene
pub use Rattle.run_shows.specs.declared as ScenesDeclared
