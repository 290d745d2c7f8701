-- What is no step of a call: histories, what calls owe, and what those on no key are called for, told and ask stay so by it.
pub mod Elsewhere
pub mod Stays
pub mod WalksOn
