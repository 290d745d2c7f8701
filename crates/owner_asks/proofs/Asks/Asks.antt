-- Calls on a key that ask, as one owner runs them to their ends.
pub mod Begins
pub mod Calls
pub mod Comes
pub mod Ends
pub mod Finished
pub mod Finishes
pub mod Questions
pub mod Ran
pub mod Refusals
pub mod Removes
pub mod Replied
pub mod Runs
pub mod Steps
pub mod Told
pub mod Undisturbed
