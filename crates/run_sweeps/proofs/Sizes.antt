-- How many pairs maps have is what is counted of them.
mod Sums
mod Balance
mod Places
mod Counting
mod Storing
mod Settled
mod Beginning
mod Ending
mod Words
mod Events
pub mod Sizes
pub mod Lens
pub mod WholeLens
pub mod Once
