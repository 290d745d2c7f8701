-- What is so by the crates below, given on to the crates above: these list this crate in place of those.
pub use Rattle.run_executor.proofs.Given.CallersTogether
pub use Rattle.run_executor.proofs.Given.HandsAsking
pub use Rattle.run_executor.proofs.Given.HandsReplacing
pub use Rattle.run_executor.proofs.Given.MomentsAfter
pub use Rattle.run_executor.proofs.Given.MomentsCalls
pub use Rattle.run_executor.proofs.Given.MomentsEnds
pub use Rattle.run_executor.proofs.Given.MomentsMakingSteps
pub use Rattle.run_executor.proofs.Given.MomentsMapsCome
pub use Rattle.run_executor.proofs.Given.MomentsNumbers
pub use Rattle.run_executor.proofs.Given.MomentsOnSlots
pub use Rattle.run_executor.proofs.Given.MomentsOver
pub use Rattle.run_executor.proofs.Given.MomentsWalks
pub use Rattle.run_executor.proofs.Given.PointsCalls
pub use Rattle.run_executor.proofs.Named.Called as NamedCalled
pub use Rattle.run_kept.proofs.Given.HistoriesAnyCall
pub use Rattle.run_kept.proofs.Given.HistoriesAsking
pub use Rattle.run_kept.proofs.Given.HistoriesCalling
pub use Rattle.run_kept.proofs.Given.HistoriesNoKey
pub use Rattle.run_kept.proofs.Given.HistoriesRefusals
pub use Rattle.run_kept.proofs.Given.OwesGrown
pub use Rattle.run_kept.proofs.Given.OwesTables
pub use Rattle.run_kept.proofs.Given.PromisesWeights
pub use Rattle.run_kept.proofs.Given.RemainsLeads
pub use Rattle.run_kept.proofs.Given.RemainsLists
pub use Rattle.run_kept.proofs.Given.RemainsMaps
pub use Rattle.run_kept.proofs.Given.RemainsStays
pub use Rattle.run_kept.proofs.Given.SettlesPassed
pub use Rattle.run_kept.proofs.Kept.Stays as KeptStays
pub use Rattle.run_kept.proofs.Lists
pub use Rattle.run_kept.proofs.Sheds.KeptGiven as ShedsKeptGiven
