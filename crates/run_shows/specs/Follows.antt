-- How the moment of a run follows the scene.
pub mod Blocks
pub mod Maps
pub mod Calls
pub mod Shows
pub mod Calling
pub mod Finds
pub mod Steps
pub mod Beginning
