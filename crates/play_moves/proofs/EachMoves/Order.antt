-- All stays in order from entry to entry, and each call of the moment is under way in the scene.
pub mod Calls
pub mod NotBusy
