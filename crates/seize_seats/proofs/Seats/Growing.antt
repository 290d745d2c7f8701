-- A memory grows: strips and buckets of slots, and the doors that they lie behind.
pub mod Behind
pub mod Doors
pub mod Finds
pub mod Gates
pub mod Joining
pub mod Looks
pub mod Offers
pub mod RoomSteps
pub mod Rooms
