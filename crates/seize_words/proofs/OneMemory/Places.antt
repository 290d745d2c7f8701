-- Where the words of slots and the entries of blocks lie.
pub mod Buckets
pub mod Filled
pub mod Next
pub mod Words
