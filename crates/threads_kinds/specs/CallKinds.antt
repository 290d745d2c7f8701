-- Calls by their kinds: each step of one on one key replaces no value, and it asks then, or goes on as one of its kind; and a sweep tells what one of its purpose may.
pub mod Answers
pub mod Leads
pub mod Kinds
pub mod Sweeps
pub mod Shows
