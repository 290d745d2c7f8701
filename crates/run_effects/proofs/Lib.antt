pub mod Tells
pub mod ReportingMemory
pub mod Effects
pub mod Tallies
pub mod Copies
pub mod Given
