-- Each kind of step keeps what is kept.
pub mod ToldFresh
pub mod Ends
pub mod EndCalls
pub mod Stays
pub mod Renamed
pub mod InHand
pub mod Calls
pub mod Between
pub mod Others
pub mod NoneMade
