-- Scenes: how callers, maps and a memory stand at a moment, and what each kind of step leads to, whoever takes it.
pub mod Between
pub mod Goes
pub mod Leads
pub mod May
pub mod NoCall
pub mod OnSlots
pub mod Rows
pub mod Told
