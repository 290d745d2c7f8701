-- The words of the crates below, given on to the crates above: these list this crate in place of those.
pub use Rattle.run_debts.specs.Counts as SettlesCounts
pub use Rattle.run_debts.specs.Due as SettlesDue
pub use Rattle.run_debts.specs.Entries as SettlesEntries
pub use Rattle.run_debts.specs.Given.MapsEndingsEnds
pub use Rattle.run_debts.specs.Given.MapsMeasuresBegins
pub use Rattle.run_debts.specs.Given.MapsMeasuresEnds
pub use Rattle.run_debts.specs.Hand as SettlesHand
pub use Rattle.run_debts.specs.InHand as SettlesInHand
