-- Executes calls, and the makings and ends of maps, that many callers have under way: one step of one of them at a time.
pub mod Beginning
pub mod Ending
pub mod IsThere
pub mod Making
pub mod MakingBegins
pub mod OnSlots
pub mod Replying
pub mod Stepping
pub mod Used
