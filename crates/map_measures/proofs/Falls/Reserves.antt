-- The reservation.
pub mod Stands
pub mod Lower
pub mod CopiesLower
pub mod Points
pub mod Rows
pub mod Lengths
pub mod Promised
