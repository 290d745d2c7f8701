-- Whatever was handed to the collector, and was not reclaimed, words lead to, at any moment.
pub mod Reached
