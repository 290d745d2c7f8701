-- A memory that seats share, under any rule: its state, where its words lie, what a seat owns, and what each step owes to the rule.
pub mod Cells
pub mod State
pub mod Lines
pub mod Strips
pub mod Doors
pub mod Buckets
pub mod Plots
pub mod Steps
pub mod Seen
pub mod Stretches
pub mod Lendings
pub mod Visits
pub mod Errands
pub mod Start
pub mod Owned
pub mod Reached
pub mod Laws
