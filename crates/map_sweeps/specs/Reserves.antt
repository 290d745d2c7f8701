-- Room in a map for further pairs, made ahead of them.
pub mod Reserve
