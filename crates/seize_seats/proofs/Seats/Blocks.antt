-- A block comes, is lent, gets another value, and goes.
pub mod Lendings
pub mod Lends
pub mod Makings
pub mod Regains
pub mod Rewrites
pub mod Testifying
