-- The words of the crates below, given on to the crates above: these list this crate in place of those.
pub use Rattle.papaya_sessions.specs.Compared as SessionsCompared
pub use Rattle.papaya_sessions.specs.Extended as SessionsExtended
pub use Rattle.papaya_sessions.specs.Given.ActsActs
pub use Rattle.papaya_sessions.specs.Given.CallersDeclared
pub use Rattle.papaya_sessions.specs.Given.CallsAnswers
pub use Rattle.papaya_sessions.specs.Given.Closures
pub use Rattle.papaya_sessions.specs.Given.Onlookers
pub use Rattle.papaya_sessions.specs.Given.OwnedOwned
pub use Rattle.papaya_sessions.specs.Given.Swept
pub use Rattle.papaya_sessions.specs.Given.ViewsDeclared
pub use Rattle.papaya_sessions.specs.Homes as SessionsHomes
pub use Rattle.papaya_sessions.specs.Kept as SessionsKept
pub use Rattle.papaya_sessions.specs.OneMap as SessionsOneMap
pub use Rattle.papaya_sessions.specs.Sessions as SessionsSessions
pub use Rattle.papaya_sessions.specs.Under as SessionsUnder
pub use Rattle.papaya_sessions.specs.Walked as SessionsWalked
pub use Rattle.threads_reclaims.specs.Reclaims.Promises as ReclaimsPromises
pub use Rattle.threads_reclaims.specs.Reclaims.Rule as ReclaimsRule
