-- What ended maps left behind the roots is reclaimed.
pub mod Cleared
pub mod First
mod Freed
pub mod Given
pub mod Listed
pub mod Once
