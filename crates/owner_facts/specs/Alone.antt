-- Calls on one key of a map whose copying nobody else has a part in: they never wait; and what they count, and how many pairs they meet.
pub mod Counted
pub mod Handed
pub mod Alone
pub mod Counting
pub mod Endings
pub mod FactsAlone
pub mod FactsAloneCalls
pub mod Values
pub mod Met
