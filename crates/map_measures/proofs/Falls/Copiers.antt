-- The copier, in both modes.
pub mod CopierOn
pub mod Old
pub mod Stages
pub mod Further
pub mod Incremental
pub mod Claims
pub mod StagesBlocking
pub mod Chunks
pub mod Remakes
pub mod Blocking
pub mod CopiersTarget
pub mod Rows
