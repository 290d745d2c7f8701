pub mod Executing
pub mod ReclaimsAll
pub mod Named
pub mod Given
