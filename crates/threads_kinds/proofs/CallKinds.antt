-- Calls by their kinds: each step of one on one key replaces no value, and it asks then, or goes on as one of its kind; and a sweep tells what one of its purpose may.
pub mod Plans
pub mod Quiet
pub mod Leads
mod Pairs
mod Asked
mod Filled
pub mod Asking
pub mod Sweeps
pub mod Telling
