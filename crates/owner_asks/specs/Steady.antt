-- Changes of one owner's map that are never refused while it has one table at most.
pub mod Steady
