-- The words of the crates below, given on to the crates above: these list this crate in place of those.
pub use Rattle.play_moves.specs.Given.ActsActs
pub use Rattle.play_moves.specs.Given.ViewsDeclared
pub use Rattle.threads_sweeps.specs.Closures
pub use Rattle.threads_sweeps.specs.Given.CallersStanding
pub use Rattle.threads_sweeps.specs.Given.SeizeCallersKept
pub use Rattle.threads_sweeps.specs.Onlookers
pub use Rattle.threads_sweeps.specs.Swept
pub use Rattle.threads_updates.specs.Deciding as UpdatesDeciding
pub use Rattle.threads_updates.specs.Given.CallersDeclared
pub use Rattle.threads_updates.specs.Given.CallsAnswers
pub use Rattle.threads_updates.specs.Given.CallsShown
pub use Rattle.threads_updates.specs.Given.OwnedOwned
pub use Rattle.threads_updates.specs.Given.SeizeViewsDeclared
pub use Rattle.threads_updates.specs.Given.StepsAsking as ErrandsAsking
pub use Rattle.threads_updates.specs.Updated as UpdatesUpdated
