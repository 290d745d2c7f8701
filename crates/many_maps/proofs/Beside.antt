-- Maps beside one another, and makings of maps.
pub mod Maps
pub mod Makings
pub mod Endings
