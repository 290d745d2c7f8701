pub mod Beginnings
mod Numbers
pub mod StepsInto
mod Samples
pub mod Given
