pub mod Fields
pub mod Lives
pub mod Claimed
pub mod Allowed
pub mod Asked
pub mod Sending
