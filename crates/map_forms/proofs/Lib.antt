pub mod PlainTexts
pub mod PairByPair
pub mod SortedItems
pub mod Readings
pub mod OneArray
mod Narrow
pub mod Told
mod Read
