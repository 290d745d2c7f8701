-- The words of the crates below, given on to the crates above: these list this crate in place of those.
pub use Rattle.seize_callers.specs.Kept as SeizeCallersKept
pub use Rattle.seize_views.specs.declared as SeizeViewsDeclared
pub use Rattle.threads_callers.specs.Given.ActsActs
pub use Rattle.threads_callers.specs.Given.CallKindsKinds
pub use Rattle.threads_callers.specs.Given.CallKindsShows
pub use Rattle.threads_callers.specs.Given.ErrandsCalling
pub use Rattle.threads_callers.specs.Given.ErrandsLooking
pub use Rattle.threads_callers.specs.Given.ErrandsSweeping
pub use Rattle.threads_callers.specs.Given.Made
pub use Rattle.threads_callers.specs.Given.OwnedOwned
pub use Rattle.threads_callers.specs.Given.Steps
pub use Rattle.threads_callers.specs.Given.StepsAsking
pub use Rattle.threads_callers.specs.Given.ThreadsStepsDeclared
pub use Rattle.threads_callers.specs.Given.ViewsBegun
pub use Rattle.threads_callers.specs.Given.ViewsDeclared
pub use Rattle.threads_callers.specs.Given.ViewsLooks
pub use Rattle.threads_callers.specs.Given.ViewsRule
pub use Rattle.threads_callers.specs.Given.ViewsTold
pub use Rattle.threads_callers.specs.Passing as CallersPassing
pub use Rattle.threads_callers.specs.Standing as CallersStanding
pub use Rattle.threads_callers.specs.declared as CallersDeclared
