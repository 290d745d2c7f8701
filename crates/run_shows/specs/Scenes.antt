-- Scenes: how callers, maps and a memory stand at a moment, and what each kind of step leads to, whoever takes it.
pub mod Beginning
pub mod Ending
pub mod Held
pub mod Making
pub mod OnSlots
pub mod Reclaiming
pub mod Replying
pub mod Rows
pub mod Scene
pub mod Stepping
