-- What ended maps have left behind roots stays there.
pub mod Stays
pub mod Calls
pub mod Makings
pub mod Endings
