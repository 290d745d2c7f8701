-- What the words of a map show of its tables and pairs, where no call is under way.
pub mod Links
pub mod Chain
pub mod Standing
pub mod Counting
mod Counted
pub mod Onward
pub mod Goes
pub mod Current
pub mod Permuted
pub mod Below
pub mod Chains
pub mod Shapes
