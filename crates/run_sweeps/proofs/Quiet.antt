-- What a step says of a call that waits, looks, or goes through pairs, whoever plays it.
pub mod LookSays
pub mod NextSays
pub mod QuietCopies
pub mod QuietWaits
pub mod RoomSays
pub mod SweepSays
pub mod Saying
pub mod Sweeps
