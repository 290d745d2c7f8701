-- What is so by the crates below, given on to the crates above: these list this crate in place of those.
pub use Rattle.map_straight.proofs.Given.RuleLaws
pub use Rattle.run_logged.proofs.Given.HistoriesAnyCall
pub use Rattle.run_logged.proofs.Given.HistoriesAsking
pub use Rattle.run_logged.proofs.Given.HistoriesNoKey
pub use Rattle.run_logged.proofs.Given.HistoriesRefusals
pub use Rattle.run_logged.proofs.Given.KeptStays
pub use Rattle.run_logged.proofs.Given.Lists
pub use Rattle.run_logged.proofs.Given.OwesGrown
pub use Rattle.run_logged.proofs.Given.OwesTables
pub use Rattle.run_logged.proofs.Given.PromisesWeights
pub use Rattle.run_logged.proofs.Given.RemainsLeads
pub use Rattle.run_logged.proofs.Given.RemainsLists
pub use Rattle.run_logged.proofs.Given.RemainsMaps
pub use Rattle.run_logged.proofs.Given.RemainsStays
pub use Rattle.run_logged.proofs.Given.SettlesPassed
pub use Rattle.run_logged.proofs.Given.ShedsKeptGiven
pub use Rattle.run_logged.proofs.Log.Counted as LoggedCounted
pub use Rattle.run_logged.proofs.Log.Kinds as LogKinds
pub use Rattle.run_logged.proofs.Rows.Elsewhere as RowsElsewhere
pub use Rattle.run_logged.proofs.Rows.Facts as RowsFacts
pub use Rattle.run_logged.proofs.Rows.Holders as RowsHolders
pub use Rattle.run_logged.proofs.Rows.Least as RowsLeast
pub use Rattle.run_logged.proofs.Rows.Lists as RowsLists
pub use Rattle.run_logged.proofs.Rows.Names as RowsNames
pub use Rattle.run_shows.proofs.Follows.Calling as FollowsCalling
pub use Rattle.run_shows.proofs.Given.SeizeMemoryWords
pub use Rattle.run_shows.proofs.Others.Quiet as OthersQuiet
pub use Rattle.run_shows.proofs.Scenes.May as ScenesMay
