pub mod Calls
pub mod Copiers
pub mod Firsts
pub mod Known
pub mod Lasts
mod Looks
pub mod Samples
pub mod Values
pub mod Rooms
pub mod KindsKept
pub mod Swept
pub mod Given
