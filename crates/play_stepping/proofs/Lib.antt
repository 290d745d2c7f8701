pub mod Mapping
pub mod EventSteps
pub mod Given
