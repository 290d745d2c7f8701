-- All stays in order from entry to entry, and each call of the moment is under way in the scene.
pub mod Effects
pub mod Maps
pub mod UnderWay
pub mod Own
pub mod RoomKept
pub mod Stays
pub mod Kept
