pub mod General
pub mod OneMemory
