-- The pairs of a map as a list.
pub mod Lists
pub mod Below
pub mod Follow
pub mod Runs
pub mod Length
pub mod Numbered
pub mod Swept
pub mod KeptBy
pub mod Shown
pub mod Answers
pub mod AtEnd
