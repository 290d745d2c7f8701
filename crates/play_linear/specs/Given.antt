-- The words of the crates below, given on to the crates above: these list this crate in place of those.
pub use Rattle.play_lists.specs.Agrees.Agree as AgreesAgree
pub use Rattle.play_lists.specs.Agrees.Fresh as AgreesFresh
pub use Rattle.play_lists.specs.Agrees.Guards as AgreesGuards
pub use Rattle.play_lists.specs.Agrees.Places as AgreesPlaces
pub use Rattle.play_lists.specs.Agrees.Shards as AgreesShards
pub use Rattle.play_lists.specs.Given.ActsAsSteps
pub use Rattle.play_lists.specs.Given.ActsCourses
pub use Rattle.play_lists.specs.Given.ActsDoings
pub use Rattle.play_lists.specs.Given.ActsLeads
pub use Rattle.play_lists.specs.Given.ActsLists
pub use Rattle.play_lists.specs.Given.FindsEvents
pub use Rattle.play_lists.specs.Given.FindsTables
pub use Rattle.play_lists.specs.Given.FollowsMaps
pub use Rattle.play_lists.specs.Given.TablesLengths
pub use Rattle.play_lists.specs.Given.ValuesValues
pub use Rattle.play_lists.specs.Grouped.ByActs as GroupedByActs
pub use Rattle.play_lists.specs.MapsEnd.Ends as MapsEndEnds
pub use Rattle.play_lists.specs.Played.Play as PlayedPlay
pub use Rattle.play_lists.specs.Played.Reached as PlayedReached
