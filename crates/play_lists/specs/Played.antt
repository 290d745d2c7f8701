-- Lists of acts are played: which memory, machines and history a list comes to, by computation.
pub mod Play
pub mod Reached
