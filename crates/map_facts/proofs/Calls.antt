-- The points of a call on one key.
pub mod CallsFound
pub mod CallsOn
pub mod CallsTables
pub mod CallsWithin
pub mod Points
pub mod Copies
mod Counts
pub mod Disposes
pub mod Makes
pub mod Making
pub mod May
pub mod Probes
mod Removes
mod Replaces
mod Stores
mod Tables
mod Tried
pub mod Tries
pub mod Holdings
pub mod Asked
pub mod Asking
pub mod Replied
pub mod RepliesTaken
pub mod RepliesKnow
pub mod FillSteps
pub mod Fills
pub mod StepsTold
