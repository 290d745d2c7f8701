-- Countings, makings and ends of maps come to their ends, whatever others do.
pub mod Lists
pub mod Points
pub mod Ends
pub mod Owned
