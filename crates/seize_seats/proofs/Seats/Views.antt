-- What a seat knows, whose it is, and how a share of it shows.
pub mod Hands
pub mod Inside
pub mod Known
pub mod Ledgers
pub mod Sent
pub mod Shares
pub mod Shown
pub mod Sitters
pub mod Stretches
