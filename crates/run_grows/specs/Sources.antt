-- Where pairs were copied from, and room behind tables.
pub mod Sources
pub mod Stays
pub mod Steps
