-- What a reservation knows, and what its steps do.
pub mod Lasts
pub mod Late
pub mod Laws
pub mod Making
pub mod Reserves
