pub mod Below
mod Builders
mod Cloned
mod Homes
