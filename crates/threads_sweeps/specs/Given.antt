-- The words of the crates below, given on to the crates above: these list this crate in place of those.
pub use Rattle.seize_callers.specs.Kept as SeizeCallersKept
pub use Rattle.threads_calls.specs.Given.CallersStanding
