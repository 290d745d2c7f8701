-- Whole reservations.
pub mod Beside
mod CopiersOn
mod PlansLeave
mod RootSame
mod RootsUnwritten
mod Left
mod LeftOn
mod Knows
mod Told
pub mod Counted
pub mod Sums
mod Room
pub mod AtRoot
