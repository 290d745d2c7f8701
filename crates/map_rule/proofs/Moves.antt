-- Each change of a map's tables keeps their rule.
mod Aborts
mod Announces
mod ClaimedPlaces
pub mod Claims
pub mod Counts
mod CoversIncremental
mod GivesUp
pub mod Links
mod MarkedPlaces
mod MarkedRoot
mod MarksBlocking
pub mod MarksIncremental
mod PromotesBlocking
mod PromotesIncremental
mod Puts
mod PutsBlocking
mod PutsIncremental
mod PutsLate
mod Reclaims
mod Removes
mod Replaces
mod RootPlaces
pub mod SamePairs
pub mod Shuts
mod Skips
mod UnmarksIncremental
pub mod RuleBegins
pub mod SharesGiven
pub mod StoodAlone
pub mod Totals
pub mod Writes
pub mod Lasting
pub mod Promised
