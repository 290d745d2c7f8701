-- Shares of a copying.
pub mod CopiersMoves
pub mod CopiersPlaces
pub mod CopiersShares
pub mod LastsShares
pub mod SharesBlocking
