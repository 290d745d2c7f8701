-- What the reclaiming of all, and the end of a map, leave of what a moment shows.
pub mod EndLists
pub mod EndOrder
pub mod EndPast
pub mod EndTells
pub mod Held
pub mod KeptGiven
pub mod LeftNoted
pub mod ReclaimGives
pub mod Reclaiming
