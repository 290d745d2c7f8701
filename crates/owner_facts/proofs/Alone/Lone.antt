-- A caller that alone has a part in a copying: it never waits, and stays alone.
mod Moves
mod Steps
pub mod QuietPoints
pub mod Keeps
mod CopierSteps
pub mod Copies
pub mod Copier
pub mod Beside
mod Awaits
mod Calls
pub mod Stays
