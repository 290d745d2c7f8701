-- What a reservation knows lasts while others step.
pub mod Reserves
