-- Maps that are made among calls of many callers on other maps.
pub mod Leaves
pub mod OtherMaps
pub mod Outs
pub mod Lasts
pub mod OtherMakings
pub mod Beside
pub mod CallSteps
pub mod FirstTable
pub mod Went
pub mod Roots
pub mod FirstLengths
pub mod Counters
pub mod Tables
pub mod Steps
pub mod RowSteps
pub mod Promised
