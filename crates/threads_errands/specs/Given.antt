-- The words of the crates below, given on to the crates above: these list this crate in place of those.
pub use Rattle.threads_steps.specs.Asking as StepsAsking
pub use Rattle.threads_steps.specs.Given.ActsActs
pub use Rattle.threads_steps.specs.Given.CallKindsKinds
pub use Rattle.threads_steps.specs.Given.CallKindsShows
pub use Rattle.threads_steps.specs.Given.CallKindsSweeps
pub use Rattle.threads_steps.specs.Given.ErrandsCalling
pub use Rattle.threads_steps.specs.Given.ErrandsCounting
pub use Rattle.threads_steps.specs.Given.ErrandsLooking
pub use Rattle.threads_steps.specs.Given.ErrandsMaking
pub use Rattle.threads_steps.specs.Given.ErrandsSweeping
pub use Rattle.threads_steps.specs.Given.OwnedOwned
pub use Rattle.threads_steps.specs.Given.ViewsBegun
pub use Rattle.threads_steps.specs.Given.ViewsDeclared
pub use Rattle.threads_steps.specs.Given.ViewsLooks
pub use Rattle.threads_steps.specs.Given.ViewsNotes
pub use Rattle.threads_steps.specs.Given.ViewsPromises
pub use Rattle.threads_steps.specs.Given.ViewsRule
pub use Rattle.threads_steps.specs.Given.ViewsTold
pub use Rattle.threads_steps.specs.Made
pub use Rattle.threads_steps.specs.Steps
pub use Rattle.threads_steps.specs.Storing as StepsStoring
pub use Rattle.threads_steps.specs.declared as ThreadsStepsDeclared
