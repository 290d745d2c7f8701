-- The history of a map since a call began, and the moments of a run since then.
pub mod Due
pub mod Answers
pub mod Events
pub mod Several
pub mod Questions
pub mod Asking
pub mod OtherCalls
pub mod OtherMidsts
pub mod Retaining
pub mod AsCalled
pub mod Elsewhere
pub mod Words
pub mod InEvent
