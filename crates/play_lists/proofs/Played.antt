-- Lists of acts are played: which memory, machines and history a list comes to, by computation.
pub mod Alike
mod Calls
mod Makings
pub mod Rows
pub mod All
pub mod Along
pub mod PlayedAs
pub mod Tied
pub mod Noted
