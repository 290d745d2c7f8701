pub mod Drawers
pub mod Joining
pub mod Taking
pub mod Behind
