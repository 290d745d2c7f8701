-- Which blocks are in the memory during a call, and with what values.
pub mod Come
