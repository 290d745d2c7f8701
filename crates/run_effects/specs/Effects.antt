-- What each block of a run's memory is, and what an operation does to pairs and tables.
pub mod Did
pub mod Effects
pub mod Known
