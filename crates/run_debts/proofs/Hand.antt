-- What calls have in hand, and that they owe just that, by kind of step.
pub mod Roles
pub mod Rows
pub mod Behind
pub mod Steps
pub mod Asked
pub mod Between
pub mod Calls
pub mod Keys
pub mod Copiers
pub mod Copies
pub mod KeyCopies
pub mod Rooms
pub mod Sweeps
pub mod All
pub mod Held
