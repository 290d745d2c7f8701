pub mod Calls
pub mod FaultTexts
pub mod Lines
pub mod Outputs
pub mod Reading
pub mod Script
pub mod Words
