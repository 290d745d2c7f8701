-- A call on one key in a table that the root has left.
pub mod Points
pub mod Replies
mod LatesOn
mod Asking
mod Fills
mod Enters
mod Found
mod Making
mod Tables
mod Tries
mod Within
