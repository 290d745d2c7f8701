-- What the steps of rows of the collector leave of a map, and of what is looked at of it.
pub mod Keep
pub mod Retired
pub mod UsersHeld
pub mod Forgotten
pub mod Forgets
pub mod Retires
pub mod Defers
pub mod Begins
pub mod Behind
pub mod Beside
pub mod Known
pub mod Owned
pub mod Users
pub mod Within
pub mod Gives
