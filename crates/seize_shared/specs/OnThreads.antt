-- The collector's rows over a memory that threads share: slots are taken, entered, left and given up, and blocks are put at
-- roots, seen there, taken from there and retired, by as many threads as there are.
pub mod Standing
pub mod Refused
