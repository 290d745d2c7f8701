-- What calls for room keep of what they are for.
pub mod Copiers
pub mod Needs
pub mod Sums
pub mod RoomPoints
pub mod RoomFacts
pub mod RoomSteps
