-- What has happened to a memory of one owner, and what holds of each world that is reached.
pub mod Calls
pub mod Further
pub mod Hands
pub mod LeftTo
pub mod NotTaken
pub mod Onto
pub mod Outside
pub mod Reached
pub mod Sets
pub mod Users
pub mod UsersTurn
pub mod Uses
pub mod Waiting
