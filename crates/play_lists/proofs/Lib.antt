pub mod Drives
pub mod Played
pub mod Agrees
pub mod Grouped
pub mod MapsEnd
pub mod Given
pub mod Samples
