pub mod Guards
pub mod OnThreads
