-- What a call was told, and that it changes what it was told to change.
pub mod Stays
pub mod Own
pub mod Goes
pub mod Walks
pub mod By
pub mod Changed
pub mod Backs
pub mod Fills
pub mod On
pub mod Steps
pub mod LateSteps
pub mod Others
pub mod Begins
pub mod Replies
pub mod Leaves
pub mod OneCurrent
