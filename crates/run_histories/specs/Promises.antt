-- The promises of a run, of single steps: what each of its events promises follows from them.
pub mod Sheltered
pub mod Shelters
pub mod Others
pub mod Guards
pub mod Protected
pub mod Weights
pub mod Brief
pub mod Reading
pub mod Meanwhile
