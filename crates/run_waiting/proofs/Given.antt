-- What is so by the crates below, given on to the crates above: these list this crate in place of those.
pub use Rattle.run_debts.proofs.Calls as SettlesCalls
pub use Rattle.run_debts.proofs.EntryScenes as SettlesEntryScenes
pub use Rattle.run_debts.proofs.EntryUsers as SettlesEntryUsers
pub use Rattle.run_debts.proofs.EntryWorlds as SettlesEntryWorlds
pub use Rattle.run_debts.proofs.Given.MapsBegins
pub use Rattle.run_debts.proofs.Given.MapsEnds
pub use Rattle.run_debts.proofs.Hand as SettlesHand
pub use Rattle.run_debts.proofs.Passed as SettlesPassed
pub use Rattle.run_debts.proofs.Uncounted as SettlesUncounted
