-- Walks over all pairs of a map that one owner has, to remove all of them, or those about which a closure answers no.
pub mod Retaining
pub mod Sweeping
