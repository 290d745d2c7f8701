pub mod OneMemory
