-- Where nobody else has a part in a copying, no pair is on its way.
pub mod NoneMoves
