pub mod Going
pub mod Leaving
pub mod Reaches
pub mod Reclaiming
pub mod Retiring
pub mod Runs
