-- A memory that seats share, under any rule: its state, where its words lie, what a seat owns, and what each step owes to the rule.
pub mod Places
pub mod Views
pub mod Blocks
pub mod Stepping
pub mod Growing
pub mod Opening
pub mod Renewal
