-- Which slots were taken, over each kind of step.
pub mod Rows
pub mod Steps
pub mod Registers
pub mod Chains
