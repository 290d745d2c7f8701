-- Lemmas on what a moment shows by which each step of a call finds what it must.
pub mod Alike
pub mod Puts
pub mod Beside
pub mod Aside
pub mod Calls
pub mod Between
pub mod Others
pub mod Making
pub mod Links
pub mod Rooms
pub mod Nexts
pub mod NextsOthers
pub mod Rest
