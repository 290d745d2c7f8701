-- What waits to be handed over is listed, step by step.
pub mod Behind
pub mod Between
pub mod Held
pub mod Calls
pub mod Dispose
pub mod Keys
pub mod Sweeps
pub mod OnKeys
pub mod OnSweeps
pub mod Puts
pub mod Steps
pub mod Handed
pub mod Next
