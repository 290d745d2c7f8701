pub mod Piles
pub mod Stacks
