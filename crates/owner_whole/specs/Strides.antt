-- Steps of a call that are taken at once, and where they end.
pub mod Ending
pub mod Looking
pub mod Standing
pub mod Within
