-- What the words of a map show of its tables and pairs, where no call is under way.
pub mod Shown
pub mod Chain
pub mod Lent
pub mod Coming
pub mod Columns
