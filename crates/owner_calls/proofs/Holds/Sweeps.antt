-- Sweeps leave what stood in the memory as they began.
pub mod Held
pub mod Looks
