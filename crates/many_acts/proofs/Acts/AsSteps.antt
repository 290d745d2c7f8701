-- Each act leads where a step of its kind does.
pub mod Told
pub mod There
pub mod Calls
pub mod Others
pub mod Rows
pub mod Reclaiming
pub mod All
