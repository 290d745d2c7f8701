-- What links lead to: from the root of a map that stands to what can be reached, whoever takes a step.
pub mod Tied
pub mod Lists
