-- The points of a copier, in incremental mode.
pub mod CopierDone
pub mod CopierLinked
pub mod CopierMoves
mod CopierTries
pub mod CopierWent
pub mod CopiersCounted
mod CopiersDone
mod CopiersFirst
mod CopiersGoOn
mod CopiersMarked
pub mod CopiersWhole
pub mod CopiersWrote
pub mod Points
mod Announces
mod Claims
mod Counts
mod Covers
mod Finds
pub mod Grows
pub mod Marks
pub mod Passes
pub mod Probes
mod Promotes
pub mod Puts
mod Unclaims
mod Unmarks
