-- Lemmas on where a call can have no further table.
pub mod Walk
pub mod Last
pub mod Mays
pub mod Chain
pub mod Off
pub mod Shows
pub mod Steps
pub mod Cases
