-- What links lead to: from the root of a map that stands to what can be reached, whoever takes a step.
pub mod Cut
pub mod Owed
pub mod Places
pub mod Named
pub mod Tied
pub mod Closed
pub mod Unlinked
pub mod Before
pub mod Makings
pub mod Steps
pub mod Lists
