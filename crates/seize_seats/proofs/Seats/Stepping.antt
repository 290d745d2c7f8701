-- What a seat does in one step, or without one, under any rule.
pub mod Errands
pub mod Exchanged
pub mod Lessons
pub mod Meetings
pub mod Moves
pub mod Outings
pub mod OwnWords
pub mod Parting
pub mod SlotWords
pub mod Steps
pub mod Visits
