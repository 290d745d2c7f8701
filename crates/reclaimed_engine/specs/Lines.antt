-- From the bytes of a script to the bytes that are printed for it.
pub mod Engine
