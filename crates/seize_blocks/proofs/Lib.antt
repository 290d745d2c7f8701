pub mod By
mod Digits
mod Far
mod Indices
