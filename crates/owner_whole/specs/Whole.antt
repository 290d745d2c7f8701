-- Whole calls for one owner of a map's memory, from the laws of many callers.
pub mod Owner
pub mod Limits
pub mod Whole
pub mod WholeRooms
pub mod Contents
pub mod AtEnd
pub mod LoneSweeps
pub mod SweptPairs
pub mod KeptBy
pub mod WholeSweeps
