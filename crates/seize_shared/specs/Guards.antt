-- Guards of sections of a memory that threads share, by what they have in common; the words that they find at roots; and blocks that have seats of their own.
pub mod Lent
pub mod Deeds
pub mod Homes
pub mod Tags
