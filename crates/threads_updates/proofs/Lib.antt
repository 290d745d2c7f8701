mod Decided
mod Asked
mod Tried
mod Named
