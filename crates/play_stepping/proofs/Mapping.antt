-- Maps of a scheduler are made, and end; and everything is reclaimed.
pub mod MapLists
pub mod Mapped
pub mod EndsLeave
pub mod MapsEnded
pub mod RootsUsed
pub mod MapNumbers
pub mod MapsMade
pub mod AllGiven
pub mod AllWorks
