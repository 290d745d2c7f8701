-- Whatever was handed to the collector, and was not reclaimed, words lead to, at any moment.
mod Paths
mod Rows
mod Waiting
mod Batches
pub mod Reached
