pub mod PrintedText
pub mod Lines
mod Samples
