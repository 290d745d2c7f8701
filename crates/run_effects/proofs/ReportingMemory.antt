-- A memory that tells what its last operation has changed.
pub mod Laws
