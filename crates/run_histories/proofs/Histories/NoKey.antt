-- Calls on no key: they are as the moment says, and their events are linearizable.
pub mod AsCalled
pub mod AsCalledOn
pub mod Sweeps
pub mod OtherEvents
pub mod Idle
