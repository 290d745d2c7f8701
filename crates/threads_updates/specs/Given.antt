-- The words of the crates below, given on to the crates above: these list this crate in place of those.
pub use Rattle.threads_calls.specs.Answers as CallsAnswers
pub use Rattle.threads_calls.specs.Given.CallersDeclared
pub use Rattle.threads_calls.specs.Given.CallersPassing
pub use Rattle.threads_calls.specs.Given.OwnedOwned
pub use Rattle.threads_calls.specs.Given.SeizeViewsDeclared
pub use Rattle.threads_calls.specs.Given.StepsAsking
pub use Rattle.threads_calls.specs.Shown as CallsShown
pub use Rattle.threads_calls.specs.declared as CallsDeclared
