-- The promises of a run, of single steps: what each of its events promises follows from them.
pub mod Lists
pub mod Shelters
pub mod Guards
pub mod Protected
pub mod Weights
pub mod Brief
