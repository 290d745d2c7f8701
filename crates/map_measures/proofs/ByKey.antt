-- A call by another form of a key is the call by the key that it stands for.
mod Points
pub mod Plans
